-- An attempt that sees the operand of a plain instruction as it is in storage.
use Rattle.std.proofs.Common.{◌≡◌, ℕ, ◌+◌, ◌<◌, false, List, [], ◌∷◌, None, refl, sym, ap, subst, ◌∙◌, get_or, take}
use Rattle.std.specs.Prelude.{cond, is_some, if◌then◌else◌}
use Rattle.std.proofs.lemmas.Bool.{true≢false}
use Rattle.std.proofs.lemmas.List.Elements.{All-cons, All-nil}
use Rattle.z_regs.specs.Cpu.{Cpu}
use Rattle.z_regs.specs.declared.ranges.Range.{Range}
use Rattle.z_instr.specs.declared.instr.Instr.{Instr}
use Rattle.z_instr.specs.declared.kind.Kind.{Kind}
use Rattle.z_instr.specs.declared.kind.Kind.TheVariants as kind
use Rattle.z_instr.specs.Roles.{is_assist}
use Rattle.z_instr.specs.Table.{entry_at, kind_at}
use Rattle.z_effect.specs.Outcome.{Outcome}
use Rattle.z_effect.specs.TransactionEffect.{delay_given, delay_of}
use Rattle.tx_program.specs.declared.ready.Touch.{Touch}
use Rattle.tx_program.specs.declared.ready.Touch.TheVariants as touch
use Rattle.tx_program.specs.Shapes.{touched_by}
use Rattle.tx_progress.specs.Progress.{Progress, seen_through}
use Rattle.tx_attempt.specs.declared.performing.Ended.{Ended}
use Rattle.tx_attempt.specs.Performed.{StoresNone, IsFetched, IsKeptApart, first_size, is_transaction, transaction_in, no_range, outcome_from}
use Rattle.tx_attempt.specs.Storages.{storage_of}
use Rattle.tx_attempt.proofs.Bare.{bare-one}
use Rattle.tx_cpu.specs.Going.{IsSeenThere}

-- nor into the first
pub first-unstored : (need : List Range) → StoresNone need → (get_or need 0 no_range).store ≡ false
first-unstored [] none = refl
first-unstored (r ∷ rs) none = none.0

-- so no byte of them is kept apart
pub none-kept : (need : List Range) (o : Outcome) (c new : Cpu) (stored : List ℕ) (e : Ended) → StoresNone need
    → IsKeptApart o (first_size need) c new [] e → IsKeptApart o (first_size need) c new stored e
none-kept [] o c new stored e none apart = record { value = apart.value; image = apart.image }
none-kept (r ∷ rs) o c new stored e none apart =
    let size : first_size (r ∷ rs) ≡ 0 = ap (λ b. cond b r.length 0) none.0 in
    let same : take (first_size (r ∷ rs)) stored ≡ take (first_size (r ∷ rs)) [] =
    ap (λ n. take n stored) size ∙ sym (ap (λ n. take n []) size) in
    record { value = ap (outcome_from e new) same ∙ apart.value; image = apart.image }

-- what is no transaction instruction
pub plain-kind : (k : Kind) → is_some (transaction_in k) ≡ false → is_transaction k ≡ false
plain-kind (kind.Transaction t) h = h
plain-kind (kind.General g) h = refl
plain-kind (kind.Storage s) h = refl
plain-kind (kind.Branch b) h = refl

-- and asks for no time
pub asks-nothing : (i : Instr) (c : Cpu) → is_transaction (kind_at i.op.number) ≡ false → delay_given i c ≡ 0
unfolding kind_at
asks-nothing i c plain = by (entry_at i.op.number).kind refl
  where
    by : (k : Kind) → (entry_at i.op.number).kind ≡ k → delay_given i c ≡ 0
    by (kind.Transaction t) e = absurd (true≢false (sym (ap is_transaction e) ∙ plain))
    by (kind.General g) e = ap (λ (k : Kind). if is_assist k then delay_of i c else 0) e
    by (kind.Storage s) e = ap (λ (k : Kind). if is_assist k then delay_of i c else 0) e
    by (kind.Branch b) e = ap (λ (k : Kind). if is_assist k then delay_of i c else 0) e

-- there is no operand
pub nothing-there : (q : Progress) (t : Touch) (first size : ℕ) → t ≡ touch.Nothing
    → IsSeenThere q (touched_by t first size)
nothing-there q t first size e =
    subst (λ (t : Touch). IsSeenThere q (touched_by t first size)) (sym e) (record {
      fetches = tt;
      seen = λ s. All-nil (IsFetched q.cpu.prefix (seen_through q.overlay (storage_of s)) s);
    })

-- it is fetched, and nothing is stored over it
pub fetched-there : (q : Progress) (t : Touch) (first size : ℕ) → t ≡ touch.Fetch → q.cpu.prefix ≡ None
    → ((k : ℕ) → k < size → q.overlay (first + k) ≡ None) → IsSeenThere q (touched_by t first size)
fetched-there q t first size e none bare =
    let r : Range = record { first = first; length = size; store = false } in
    subst (λ (t : Touch). IsSeenThere q (touched_by t first size)) (sym e) (record {
      fetches = (refl, tt);
      seen = λ s. All-cons (IsFetched q.cpu.prefix (seen_through q.overlay (storage_of s)) s) r []
          (bare-one q.overlay q.cpu.prefix r s none bare)
          (All-nil (IsFetched q.cpu.prefix (seen_through q.overlay (storage_of s)) s));
    })
