-- What an instruction inside a transaction leaves and tells that may be about transactions.
use Rattle.std.proofs.Common.{◌≡◌, ◌+◌, ◌<◌, List, Option, ℕ, true, refl, ap, sym, subst, ◌∙◌, length, take}
use Rattle.std.proofs.Common.{arith}
use Rattle.std.specs.Prelude.{◌&&◌, nat_lt, nat_eq}
use Rattle.std.proofs.lemmas.Bool.{and_parts, eqb-true}
use Rattle.std.proofs.lemmas.Bool.Decides.{nat_tests}
use Rattle.z_regs.specs.Cpu.{cpu_of}
use Rattle.z_instr.specs.Layout.{form_length}
use Rattle.z_instr.specs.Roles.{is_end}
use Rattle.z_instr.specs.Table.{Entry, entry_at}
use Rattle.z_effect.specs.After.{exception}
use Rattle.tx_control.specs.Codes.{fixed_point_overflow_code, fixed_point_divide_code}
use Rattle.tx_serial.specs.Fate.{cause_in, operands}
use Rattle.store_cache.specs.Entries.{stores_of}
use Rattle.tx_progress.specs.Progress.{seen_through}
use Rattle.tx_progress.specs.Trial.{outcome_by}
use Rattle.tx_attempt.specs.Advancing.{MayAdvance}
use Rattle.tx_cpu.specs.Going.{MayGo}
use Rattle.tx_attempt.specs.Performed.{StoresFirst, first_size}
use Rattle.tx_attempt.specs.Tracked.{progress}
use Rattle.tx_cpu.specs.Parts.{Parts}
use Rattle.tx_attempt.specs.Storages.{storage_of}
use Rattle.tx_cpu.specs.contracts.one.Cpu.{the_view}
use Rattle.tx_cpu.proofs.Inside.{stepped-is, committed-is, exceeded-is, suppressed-is, aborting-is}
use Rattle.tx_cpu.proofs.Inside.{exceeds-no-end, end-bare, next-known}
use Rattle.tx_attempt.proofs.Stored.{operands-first}
use Rattle.tx_cpu.proofs.one.Cpu.execute_nested.Goals as goal

pub advance-requires-clause-known : goal.advance-requires-clause-known
advance-requires-clause-known g c = record {
  cpu = cpu_of c.self.inside.image;
  known = c.of-before.ensures;
  operands_are = c.requires.goes.operands_are
      ∙ ap (λ (q : Parts). operands c.args.instr.now q.image) (sym c.self.view_is);
}

pub advance-requires-in-Exceeded-clause-known : goal.advance-requires-in-Exceeded-clause-known
advance-requires-in-Exceeded-clause-known g c = record {
  cpu = cpu_of c.self.inside.image;
  known = c.of-before.ensures;
  operands_are = c.requires.goes.operands_are
      ∙ ap (λ (q : Parts). operands c.args.instr.now q.image) (sym c.self.view_is);
}

pub advance-requires-in-Exceeded-clause-goes_on : goal.advance-requires-in-Exceeded-clause-goes_on
advance-requires-in-Exceeded-clause-goes_on g c =
    let p = the_view c.self.inside in
    let i = c.args.instr.now in
    let goes : MayGo p.attempt p.image i c.args.need.now =
    subst (λ (q : Parts). MayGo q.attempt q.image i c.args.need.now) (sym c.self.view_is) c.requires.goes in
    let live : nat_lt 0 p.attempt.count ≡ true =
    ap (λ (q : Parts). nat_lt 0 q.attempt.count) c.self.view_is ∙ c.requires.live in
    let some : 0 < p.attempt.count = grind (arith, nat_tests, live) in
    subst (λ (prefix : Option ℕ). MayAdvance p.attempt i prefix c.args.need.now)
    (sym c.of-before.ensures.prefix)
    (goes.advances (c.is_sound.ensures.opens some)
    (exceeds-no-end i c.args.need.now (storage_of (g.V.Bytes.bytes c.args.base.now))
    (progress p.attempt p.image) _ _ _ (is_end (entry_at i.op.number)) refl c.in-Exceeded.ensures.value))

pub returns-then-is_last-clause-value : goal.returns-then-is_last-clause-value
returns-then-is_last-clause-value g c =
    let p = the_view c.self.inside in
    let i = c.args.instr.now in
    let need = c.args.need.now in
    let last : (is_end (entry_at i.op.number) && nat_eq (length p.attempt.nest) 1) ≡ true =
    sym c.is_last.ensures ∙ c.if-is_last.true in
    let parts = and_parts (is_end (entry_at i.op.number)) (nat_eq (length p.attempt.nest) 1) last in
    rw (← c.self.view_is)
    (committed-is p i need
    (outcome_by (storage_of (g.V.Bytes.bytes c.args.base.now)) i need (progress p.attempt p.image))
    (cpu_of c.perform-ended.new.image) c.perform-ended.new.stored _ _ _ _ parts.0
    (eqb-true (length p.attempt.nest) 1 parts.1)
    (c.requires.goes.operands_are ∙ end-bare i c.args.self.now.image parts.0)
    c.in-Completed.ensures.value c.commit.ensures.rests
    (c.commit.ensures.bytes ∙ ap (λ (b : List ℕ). seen_through (stores_of p.attempt.stores).overlay
    (storage_of b)) c.perform-ended.ensures.same)
    (ap (λ n. n + 1) c.count-count.ensures))

pub returns-else-is_last-clause-value : goal.returns-else-is_last-clause-value
returns-else-is_last-clause-value g c =
    let p = the_view c.self.inside in
    let i = c.args.instr.now in
    let need = c.args.need.now in
    let live : nat_lt 0 c.self.inside.attempt.count ≡ true =
    ap (λ (q : Parts). nat_lt 0 q.attempt.count) c.self.view_is ∙ c.requires.live in
    let first : StoresFirst need =
    subst StoresFirst (sym c.requires.goes.operands_are) (operands-first i c.args.self.now.image) in
    rw (← c.self.view_is, c.perform-ended.ensures.same)
    (stepped-is p i need
    (outcome_by (storage_of (g.V.Bytes.bytes c.args.base.now)) i need (progress p.attempt p.image))
    (cpu_of c.perform-ended.new.image) c.perform-ended.new.stored c.advance.new.self _ live
    c.advance.ensures.live (c.is_sound-in-Completed.ensures.opens c.advance.ensures.live) first
    c.in-Completed.ensures.value
    (next-known p i need c.perform-ended.new.stored c.advance.new.self c.of-before.result.prefix
    c.of-before.ensures.prefix (λ x. c.advance.ensures.value p.image x c.of-before.ensures)))

pub returns-in-Exceeded-clause-value : goal.returns-in-Exceeded-clause-value
returns-in-Exceeded-clause-value g c =
    let p = the_view c.self.inside in
    let i = c.args.instr.now in
    let need = c.args.need.now in
    let live : nat_lt 0 c.self.inside.attempt.count ≡ true =
    ap (λ (q : Parts). nat_lt 0 q.attempt.count) c.self.view_is ∙ c.requires.live in
    let first : StoresFirst need =
    subst StoresFirst (sym c.requires.goes.operands_are) (operands-first i c.args.self.now.image) in
    let length = c.length_in.ensures ∙ ap (λ (e : Entry). form_length e.form) c.line.ensures.row in
    let raised = c.exception-overflow.ensures ∙ ap (exception fixed_point_overflow_code) length in
    rw (← c.self.view_is, c.perform-ended.ensures.same)
    (exceeded-is p i need
    (outcome_by (storage_of (g.V.Bytes.bytes c.args.base.now)) i need (progress p.attempt p.image))
    (cpu_of c.perform-ended.new.image) c.perform-ended.new.stored c.advance-in-Exceeded.new.self _
    c.cause_in.result live c.advance-in-Exceeded.ensures.live first c.in-Exceeded.ensures.value
    (next-known p i need c.perform-ended.new.stored c.advance-in-Exceeded.new.self c.of-before.result.prefix
    c.of-before.ensures.prefix (λ x. c.advance-in-Exceeded.ensures.value p.image x c.of-before.ensures))
    (c.cause_in.ensures ∙ (λ j. cause_in (c.nest.ensures j) (raised j))))

pub returns-in-Suppressed-clause-value : goal.returns-in-Suppressed-clause-value
returns-in-Suppressed-clause-value g c =
    let p = the_view c.self.inside in
    let i = c.args.instr.now in
    let need = c.args.need.now in
    let live : nat_lt 0 c.self.inside.attempt.count ≡ true =
    ap (λ (q : Parts). nat_lt 0 q.attempt.count) c.self.view_is ∙ c.requires.live in
    let length =
    c.length_in-in-Suppressed.ensures
    ∙ ap (λ (e : Entry). form_length e.form) c.line-in-Suppressed.ensures.row in
    let raised = c.exception-divide.ensures ∙ ap (exception fixed_point_divide_code) length in
    rw (← c.self.view_is, c.perform-ended.ensures.same)
    (suppressed-is p i need
    (outcome_by (storage_of (g.V.Bytes.bytes c.args.base.now)) i need (progress p.attempt p.image))
    (cpu_of c.perform-ended.new.image) (cpu_of c.perform-ended.new.image)
    (take (first_size need) c.perform-ended.new.stored) _ c.cause_in-in-Suppressed.result live
    c.in-Suppressed.ensures.value c.in-Suppressed.ensures.image
    (c.cause_in-in-Suppressed.ensures ∙ (λ j. cause_in (c.nest-in-Suppressed.ensures j) (raised j))))

pub returns-in-Aborting-clause-value : goal.returns-in-Aborting-clause-value
returns-in-Aborting-clause-value g c =
    let p = the_view c.self.inside in
    let i = c.args.instr.now in
    let need = c.args.need.now in
    let live : nat_lt 0 c.self.inside.attempt.count ≡ true =
    ap (λ (q : Parts). nat_lt 0 q.attempt.count) c.self.view_is ∙ c.requires.live in
    rw (← c.self.view_is, c.perform-ended.ensures.same)
    (aborting-is p i need
    (outcome_by (storage_of (g.V.Bytes.bytes c.args.base.now)) i need (progress p.attempt p.image))
    (cpu_of c.perform-ended.new.image) (cpu_of c.perform-ended.new.image)
    (take (first_size need) c.perform-ended.new.stored) _ _ live
    c.in-Aborting.ensures.value c.in-Aborting.ensures.image)
