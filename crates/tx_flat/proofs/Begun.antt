-- Where a run begins, and that a begin is open where its attempt may be aborted.
use Rattle.std.proofs.Common.{◌≡◌, ℕ, zero, suc, ◌-◌, ◌<◌, Bool, true, false, List, [], ◌∷◌, ◌++◌, refl}
use Rattle.std.proofs.Common.{sym, ◌∙◌, lit<, arith, length, take}
use Rattle.std.specs.Prelude.{◌||◌, not, if◌then◌else◌}
use Rattle.std.proofs.lemmas.Bool.{true≢false}
use Rattle.z_regs.specs.Cpu.{Cpu}
use Rattle.z_regs.specs.Prefix.{storage_size, absolute_of}
use Rattle.z_regs.specs.declared.ranges.Range.{Range}
use Rattle.z_instr.specs.Access.{text_pages}
use Rattle.z_instr.specs.Roles.{begins, is_end}
use Rattle.z_instr.specs.Table.{Entry, entry_at}
use Rattle.z_instr.specs.declared.instr.Instr.{Instr}
use Rattle.z_instr.specs.declared.table.TheConstants.{ROWS}
use Rattle.z_instr.proofs.TableFacts.{passes_row}
use Rattle.z_effect.specs.Beginning.{begin_of}
use Rattle.z_instr.specs.Table.{kind_at}
use Rattle.z_effect.specs.One.{one, effect, length_of}
use Rattle.z_effect.specs.Outcome.{Outcome, Did, Divides, Aborts}
use Rattle.z_effect.specs.Outcome as outcome
use Rattle.z_effect.specs.TransactionEffect.{transaction_effect}
use Rattle.z_instr.specs.declared.kind.Kind.{Kind}
use Rattle.z_instr.specs.declared.kind.Kind.TheVariants as kind
use Rattle.z_instr.specs.declared.kind.Transaction.{Transaction}
use Rattle.z_instr.specs.declared.kind.Transaction.TheVariants as transaction
use Rattle.tx_control.specs.declared.begins.Begin.{Begin}
use Rattle.tx_constraint.specs.Constraints.{Step}
use Rattle.tx_serial.specs.Flat.{FlatState, operand_bytes}
use Rattle.tx_serial.specs.Attempt.{Run, Mark, Open, Committed, Overflowed, Missing}
use Rattle.tx_serial.specs.Fate.{Fate, Goes, Ends, Stops, fate, length_at, step_of}
use Rattle.tx_serial.specs.Run.{run, more, more_of, after_fate, after_where, after, may_follow, outcome_of}
use Rattle.tx_serial.specs.Run.{mark_in, nest_after}
use Rattle.tx_serial.proofs.Passing.{passes}
use Rattle.tx_private.specs.Shows.{begin_at}
use Rattle.tx_private.proofs.Fetched.{fetched_inside}
use Rattle.z_instr.proofs.Distinct.{some_length}

-- ---- the begin lies in storage

abbrev BeginsInside : Run → Type 0
BeginsInside p = begin_at p.steps < storage_size

with_last : (steps : List Step) (s : Step) → begin_at steps < storage_size → s.at < storage_size
    → begin_at (steps ++ s ∷ []) < storage_size
with_last [] s h low = low
with_last (x ∷ rest) s h low = h

-- what goes was fetched
goes_inside : (text : List ℕ) (p : Run) (i : Instr) (ranges : List Range) → fate text p ≡ Goes i ranges
    → p.cpu.address < storage_size
goes_inside text p i ranges h =
    let some = some_length (p.copy (absolute_of p.cpu.prefix p.cpu.address)) in
    let room = fetched_inside p.cpu.prefix (text_pages p.cpu.prefix text) p.cpu.address (length_at p) some
    (passes text p i ranges h).fetched in
    omega (arith, some, room)

inside_after : (i : Instr) (ranges : List Range) (p : Run) (o : Outcome) → p.cpu.address < storage_size
    → BeginsInside p → BeginsInside (after i ranges p o)
inside_after i ranges p (Did c bytes) low h = with_last p.steps (step_of i ranges p.cpu) h low
inside_after i ranges p (outcome.Overflowed c bytes) low h =
    with_last p.steps (step_of i ranges p.cpu) h low
inside_after i ranges p Divides low h = h
inside_after i ranges p (Aborts code) low h = h

inside_where : (b : Bool) (i : Instr) (ranges : List Range) (p : Run) → p.cpu.address < storage_size
    → BeginsInside p → BeginsInside (after_where b i ranges p)
inside_where true i ranges p low h = inside_after i ranges p (outcome_of i ranges p) low h
inside_where false i ranges p low h = h

inside_fate : (text : List ℕ) (p : Run) (o : Fate) → fate text p ≡ o → BeginsInside p
    → BeginsInside (after_fate o p)
inside_fate text p (Goes i ranges) e h =
    inside_where (may_follow p.nest i) i ranges p (goes_inside text p i ranges e) h
inside_fate text p (Ends why) e h = h
inside_fate text p (Stops x) e h = h

inside_more : (m : Mark) (text : List ℕ) (p : Run) → BeginsInside p → BeginsInside (more_of m text p)
inside_more Open text p h = inside_fate text p (fate text p) refl h
inside_more Committed text p h = h
inside_more Overflowed text p h = h
inside_more Missing text p h = h

pub begins_inside : (f : FlatState) (i n : ℕ) → begin_at (run f i n).steps < storage_size
unfolding run more
begins_inside f i zero = lit< tt
begins_inside f i (suc n) = inside_more (run f i n).mark f.text (run f i n) (begins_inside f i n)

-- ---- begins and ends do not overflow

abbrev is_transaction : Kind → Bool
is_transaction (kind.Transaction t) = true
is_transaction _ = false

abbrev is_told_apart : Entry → Bool
is_told_apart e = not (begins e || is_end e) || is_transaction e.kind

all_told_apart : (n : ℕ) → n < ROWS → is_told_apart (entry_at n) ≡ true
all_told_apart = passes_row is_told_apart refl

none_overflows : (t : Transaction) (n : ℕ) (i : Instr) (c : Cpu) (depth : ℕ) (d : Cpu) (bytes : List ℕ)
    → transaction_effect t n i c depth ≡ outcome.Overflowed d bytes → ⊥
unfolding transaction_effect
none_overflows transaction.Begin n i c depth d bytes h = cc
none_overflows transaction.BeginConstrained n i c depth d bytes h = cc
none_overflows transaction.End n i c depth d bytes h = cc
none_overflows transaction.Abort n i c depth d bytes h = cc
none_overflows transaction.ExtractDepth n i c depth d bytes h = cc
none_overflows transaction.StoreLasting n i c depth d bytes h = cc
none_overflows transaction.Assist n i c depth d bytes h = cc

plain_kind : (k : Kind) (n : ℕ) (i : Instr) (c : Cpu) (depth : ℕ) (given : List ℕ) (d : Cpu)
    (bytes : List ℕ) → effect k n i c depth given ≡ outcome.Overflowed d bytes → is_transaction k ≡ false
plain_kind (kind.General g) n i c depth given d bytes h = refl
plain_kind (kind.Storage s) n i c depth given d bytes h = refl
plain_kind (kind.Branch b) n i c depth given d bytes h = refl
plain_kind (kind.Transaction t) n i c depth given d bytes h =
    absurd (none_overflows t n i c depth d bytes h)

no_role : (x y : Bool) → (not x || y) ≡ true → y ≡ false → x ≡ false
no_role true y h e = absurd (true≢false (sym h ∙ e))
no_role false y h e = refl

over_has_no_role : (i : Instr) (c : Cpu) (depth : ℕ) (given : List ℕ) (d : Cpu) (bytes : List ℕ)
    → one i c depth given ≡ outcome.Overflowed d bytes
    → (begins (entry_at i.op.number) || is_end (entry_at i.op.number)) ≡ false
unfolding kind_at
over_has_no_role i c depth given d bytes h =
    no_role (begins (entry_at i.op.number) || is_end (entry_at i.op.number))
    (is_transaction (kind_at i.op.number)) (all_told_apart i.op.number i.op.known)
    (plain_kind (kind_at i.op.number) (length_of i) i c depth given d bytes h)

-- ---- a begin is open

abbrev pub HasBegin : Mark → List Begin → Type 0
HasBegin Open nest = 0 < length nest
HasBegin Committed nest = Unit {0}
HasBegin Overflowed nest = 0 < length nest
HasBegin Missing nest = Unit {0}

some_begin : (b : Begin) (bs : List Begin) → 0 < length (b ∷ bs)
some_begin b bs = omega arith

open_in : (nest : List Begin) → HasBegin (mark_in nest) nest
open_in [] = tt
open_in (b ∷ bs) = some_begin b bs

follows_some : (nest : List Begin) (i : Instr) → may_follow nest i ≡ true
    → begins (entry_at i.op.number) ≡ false → 0 < length nest
follows_some [] i h e = absurd (true≢false (sym h ∙ e))
follows_some (b ∷ bs) i h e = some_begin b bs

-- where it is no begin and no end
over_some : (i : Instr) (general : List ℕ) (nest : List Begin) (x y : Bool) → (x || y) ≡ false
    → (x ≡ false → 0 < length nest)
    → 0 < length (if x then nest ++ begin_of i general ∷ [] else if y then take (length nest - 1) nest else
    nest)
over_some i general nest true y h some = absurd (true≢false h)
over_some i general nest false true h some = absurd (true≢false h)
over_some i general nest false false h some = some refl

begun_after : (i : Instr) (ranges : List Range) (p : Run) (o : Outcome) → outcome_of i ranges p ≡ o
    → may_follow p.nest i ≡ true → HasBegin (after i ranges p o).mark (after i ranges p o).nest
begun_after i ranges p (Did c bytes) e follows = open_in (nest_after i p.cpu.general p.nest)
begun_after i ranges p (outcome.Overflowed c bytes) e follows =
    over_some i p.cpu.general p.nest (begins (entry_at i.op.number)) (is_end (entry_at i.op.number))
    (over_has_no_role i p.cpu (length p.nest) (operand_bytes p.cpu.prefix p.copy ranges) c bytes e)
    (follows_some p.nest i follows)
begun_after i ranges p Divides e follows = tt
begun_after i ranges p (Aborts code) e follows = tt

begun_where : (b : Bool) (i : Instr) (ranges : List Range) (p : Run) → may_follow p.nest i ≡ b
    → HasBegin (after_where b i ranges p).mark (after_where b i ranges p).nest
begun_where true i ranges p e = begun_after i ranges p (outcome_of i ranges p) refl e
begun_where false i ranges p e = tt

begun_fate : (o : Fate) (p : Run) → HasBegin (after_fate o p).mark (after_fate o p).nest
begun_fate (Goes i ranges) p = begun_where (may_follow p.nest i) i ranges p refl
begun_fate (Ends why) p = tt
begun_fate (Stops x) p = tt

begun_more : (m : Mark) (text : List ℕ) (p : Run) → HasBegin (more_of m text p).mark (more_of m text p).nest
begun_more Open text p = begun_fate (fate text p) p
begun_more Committed text p = tt
begun_more Overflowed text p = tt
begun_more Missing text p = tt

-- behind the first instruction of a run, and all others
pub begun : (f : FlatState) (i n : ℕ) → 0 < n → HasBegin (run f i n).mark (run f i n).nest
unfolding run more
begun f i zero some = absurd (omega (arith, some))
begun f i (suc n) some = begun_more (run f i n).mark f.text (run f i n)
