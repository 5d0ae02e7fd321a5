-- An instruction that is not about transactions leaves the open begins as they are, and stores nothing lastingly.
use Rattle.std.proofs.Common.{◌≡◌, ℕ, ◌+◌, ◌-◌, ◌<◌, Bool, true, false, List, [], ◌∷◌, ◌++◌, Option, None, Some, refl}
use Rattle.std.proofs.Common.{sym, ap, ◌∙◌, arith, length, take}
use Rattle.std.specs.Prelude.{◌||◌, ◌&&◌, not, nat_lt, if◌then◌else◌}
use Rattle.std.proofs.lemmas.Bool.{and_parts, not-true}
use Rattle.std.proofs.lemmas.Bool.Decides.{nat_tests}
use Rattle.z_regs.specs.Absolute.{absolute_ranges}
use Rattle.z_regs.specs.Cpu.{Cpu}
use Rattle.z_regs.specs.declared.ranges.Range.{Range}
use Rattle.z_regs.proofs.Elements.{second_holds}
use Rattle.z_instr.proofs.PlainImmediates.{implied}
use Rattle.z_instr.specs.declared.instr.Instr.{Instr}
use Rattle.z_instr.specs.Roles.{begins, is_end, stores_lastingly}
use Rattle.z_instr.specs.Table.{Entry, entry_at, kind_at}
use Rattle.z_effect.specs.Beginning.{begin_of}
use Rattle.tx_control.specs.declared.begins.Begin.{Begin}
use Rattle.store_cache.specs.Entries.{stores_of}
use Rattle.store_cache.specs.Overlay.{Overlay, Store}
use Rattle.store_cache.specs.Stores.{Stores, lasting_bytes}
use Rattle.tx_constraint.specs.Kept.{Kept}
use Rattle.tx_footprint.specs.Touched.{sets_of, touching}
use Rattle.tx_progress.proofs.Parts.{resumes_stays}
use Rattle.tx_progress.proofs.Rows.{any_row}
use Rattle.tx_progress.specs.Progress.{advanced, constraint_after, laying, resumed_after}
use Rattle.tx_serial.specs.Run.{nest_after, lasting_of}
use Rattle.tx_attempt.specs.Advancing.{grown}
use Rattle.tx_attempt.specs.Performed.{is_transaction}
use Rattle.tx_attempt.specs.Tracked.{Tracked, progress}
use Rattle.tx_attempt.proofs.GatheredStores.{others-last-not}

-- ---- what the table says of it

abbrev is_plain_row : Entry → Bool
is_plain_row e = is_transaction e.kind || (not (begins e) && (not (is_end e) && not (stores_lastingly e)))

-- it begins nothing, ends nothing, and is no NTSTG
record IsPlain (e : Entry) : Type 0 where
  begins_none : begins e ≡ false
  ends_none : is_end e ≡ false
  lasts_not : stores_lastingly e ≡ false

-- each row of the table that is not about transactions is so
plain-row : (n : ℕ) → is_transaction (kind_at n) ≡ false → IsPlain (entry_at n)
unfolding kind_at
plain-row n h =
    let e = entry_at n in
    let parts = and_parts (not (begins e)) (not (is_end e) && not (stores_lastingly e))
    (second_holds (is_transaction e.kind) _ (any_row is_plain_row refl refl n) h) in
    let rest = and_parts (not (is_end e)) (not (stores_lastingly e)) parts.1 in
    record {
      begins_none = not-true (begins e) parts.0;
      ends_none = not-true (is_end e) rest.0;
      lasts_not = not-true (stores_lastingly e) rest.1;
    }

-- so it begins no transaction
pub begins-none : (i : Instr) → is_transaction (kind_at i.op.number) ≡ false → begins (entry_at i.op.number) ≡ false
begins-none i h = (plain-row i.op.number h).begins_none

-- nor does it end the last begin
pub ends-no-last : (i : Instr) (last : Bool) → is_transaction (kind_at i.op.number) ≡ false
    → (is_end (entry_at i.op.number) && last) ≡ false
ends-no-last i last h = ap (λ b. b && last) (plain-row i.op.number h).ends_none

-- the open begins stay
nest-kept : (i : Instr) (general : List ℕ) (nest : List Begin) → begins (entry_at i.op.number) ≡ false
    → is_end (entry_at i.op.number) ≡ false → nest_after i general nest ≡ nest
nest-kept i general nest begins_none ends_none =
    ap (λ b. if b then nest ++ begin_of i general ∷ []
    else if is_end (entry_at i.op.number) then take (length nest - 1) nest else nest) begins_none
    ∙ ap (λ b. if b then take (length nest - 1) nest else nest) ends_none

pub nest-stays : (i : Instr) (general : List ℕ) (t : Tracked) → is_transaction (kind_at i.op.number) ≡ false
    → nest_after i general t.nest ≡ t.nest
nest-stays i general t h =
    let plain = plain-row i.op.number h in
    nest-kept i general t.nest plain.begins_none plain.ends_none

-- nothing more outlives an abort
pub lasts-nothing : (i : Instr) (o : Overlay) (ss : List Store) → is_transaction (kind_at i.op.number) ≡ false
    → o ≡ laying o (lasting_of i ss)
lasts-nothing i o ss h = others-last-not i o ss (plain-row i.op.number h).lasts_not

-- ---- one such instruction more

-- a live attempt has counted its operands
constraint-grown : (n at : ℕ) (i : Instr) (need : List Range) (o : Option Kept) → nat_lt 0 n ≡ true
    → constraint_after n i need at o ≡ grown need o
constraint-grown n at i need None h = grind (arith, h)
constraint-grown n at i need (Some k) h = grind (arith, h)

-- the attempt has gone on with it, and all else is as the instruction has left it
pub went-on : (i : Instr) (need : List Range) (x c : Cpu) (t s : Tracked) (prefix : Option ℕ) (ss : List Store)
    → x.prefix ≡ prefix → 0 < t.count → s.nest ≡ nest_after i x.general t.nest
    → (stores_of s.stores).overlay ≡ laying (stores_of t.stores).overlay ss
    → lasting_bytes (stores_of s.stores).lasting
    ≡ laying (lasting_bytes (stores_of t.stores).lasting) (lasting_of i ss)
    → sets_of s.footprint ≡ touching (sets_of t.footprint) (absolute_ranges prefix need)
    → s.constraint ≡ grown need t.constraint → s.count ≡ t.count + 1 → s.resumes_at ≡ t.resumes_at
    → progress s c ≡ advanced i need c ss (progress t x)
went-on i need x c t s prefix ss ep live nest overlay lasting ef ek ec er =
    let more : nat_lt 0 t.count ≡ true = grind (arith, nat_tests, live) in
    let sets = ef ∙ ap (λ (q : Option ℕ). touching (sets_of t.footprint) (absolute_ranges q need)) (sym ep) in
    let kept = ek ∙ sym (constraint-grown t.count x.address i need t.constraint more) in
    let resumes : s.resumes_at ≡ resumed_after t.count i x.address t.resumes_at =
    er ∙ sym (resumes_stays t.count x.address t.resumes_at i more) in
    λ j. record {
      cpu = c;
      overlay = overlay j;
      lasting = lasting j;
      nest = nest j;
      footprint = sets j;
      constraint = kept j;
      resumes_at = resumes j;
      count = ec j;
    }

-- it is completed
pub stepped : (i : Instr) (need : List Range) (x c : Cpu) (t s : Tracked) (prefix : Option ℕ) (ss : List Store)
    → is_transaction (kind_at i.op.number) ≡ false → x.prefix ≡ prefix → 0 < t.count → s.nest ≡ t.nest
    → stores_of s.stores
    ≡ record (stores_of t.stores) { overlay = laying (stores_of t.stores).overlay ss }
    → sets_of s.footprint ≡ touching (sets_of t.footprint) (absolute_ranges prefix need)
    → s.constraint ≡ grown need t.constraint → s.count ≡ t.count + 1 → s.resumes_at ≡ t.resumes_at
    → progress s c ≡ advanced i need c ss (progress t x)
stepped i need x c t s prefix ss plain ep live en es ef ek ec er =
    went-on i need x c t s prefix ss ep live (en ∙ sym (nest-stays i x.general t plain))
    (ap (λ (o : Stores). o.overlay) es)
    (ap (λ (o : Stores). lasting_bytes o.lasting) es
    ∙ lasts-nothing i (lasting_bytes (stores_of t.stores).lasting) ss plain) ef ek ec er

-- ---- and of NTSTG

abbrev is_bare_row : Entry → Bool
is_bare_row e = not (stores_lastingly e) || (not (begins e) && not (is_end e))

-- it begins nothing and ends nothing, so the open begins stay
pub nest-beside : (i : Instr) (general : List ℕ) (nest : List Begin) → stores_lastingly (entry_at i.op.number) ≡ true
    → nest_after i general nest ≡ nest
nest-beside i general nest h =
    let parts = and_parts (not (begins (entry_at i.op.number))) (not (is_end (entry_at i.op.number)))
    (implied (stores_lastingly (entry_at i.op.number)) _ (any_row is_bare_row refl refl i.op.number) h) in
    nest-kept i general nest (not-true (begins (entry_at i.op.number)) parts.0)
    (not-true (is_end (entry_at i.op.number)) parts.1)
