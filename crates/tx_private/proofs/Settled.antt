-- What is kept of a run after one instruction more.
use Rattle.std.proofs.Common.{◌≡◌, ℕ, ◌+◌, ◌<◌, ◌≤◌, Bool, true, false, not, List, [], ◌∷◌}
use Rattle.std.proofs.Common.{◌++◌}
use Rattle.std.proofs.Common.{None, refl, sym, ap, subst, ◌∙◌, length}
use Rattle.std.specs.Prelude.{map, ◌&&◌, ◌||◌}
use Rattle.std.specs.List.{list_any}
use Rattle.std.proofs.lemmas.Bool.{true≢false}
use Rattle.std.proofs.lemmas.List.Folds.{list_any-append}
use Rattle.z_regs.specs.Cpu.{Cpu}
use Rattle.z_regs.specs.Prefix.{storage_size, is_prefix}
use Rattle.z_regs.specs.Seen.{seen_by}
use Rattle.z_regs.specs.declared.ranges.Range.{Range}
use Rattle.z_instr.specs.declared.instr.Instr.{Instr}
use Rattle.z_instr.specs.Table.{Entry, entry_at}
use Rattle.z_instr.specs.Facts.{agree}
use Rattle.z_instr.specs.declared.kind.Kind.{Kind}
use Rattle.z_instr.specs.declared.kind.Kind.TheVariants as kind
use Rattle.z_instr.specs.declared.kind.Transaction.TheVariants as transaction
use Rattle.z_instr.specs.Table.{kind_at}
use Rattle.z_instr.specs.Roles.{begins}
use Rattle.z_instr.specs.Operands.{Span}
use Rattle.z_touch.specs.Refusals.{range_of, span_of}
use Rattle.z_effect.specs.One.{length_of, one, effect}
use Rattle.z_effect.specs.After.{touched, ranges_of, with_stored, AreInside}
use Rattle.z_instr.specs.declared.table.TheConstants.{ROWS}
use Rattle.z_instr.proofs.TableFacts.{passes_row}
use Rattle.tx_control.specs.declared.begins.Begin.{Begin}
use Rattle.tx_constraint.specs.Operations.{ends, is_permitted}
use Rattle.tx_constraint.specs.Constraints.{Step, Attempt, with_step, text_breach, operand_breach}
use Rattle.tx_constraint.specs.Constraints.{GoesOn}
use Rattle.tx_constraint.specs.Constraints.{has_barred, is_too_long, leaves_its_bytes}
use Rattle.tx_footprint.specs.Touched.{Sets, untouched, touching}
use Rattle.tx_serial.specs.Flat.{Storage, bytes_of, laid_over, operand_stores}
use Rattle.tx_serial.specs.Attempt.{Run, footprint, attempt_of}
use Rattle.tx_serial.specs.Fate.{operands}
use Rattle.tx_serial.specs.Run.{outcome_of}
use Rattle.z_instr.specs.Roles.{stores_lastingly}
use Rattle.tx_serial.proofs.Listed.{bytes_are_seen, stores_are_seen}
use Rattle.tx_private.specs.Done.{outcome_at, is_lasting_kind}
use Rattle.tx_private.specs.Reading.{IsCopy}
use Rattle.tx_private.specs.Shows.{EndsInTime, begin_at, begin_length, is_empty, IsLimited}
use Rattle.tx_constraint.specs.Kept.{Kept, kept, kept_at, added}
use Rattle.tx_constraint.proofs.Attempts.{octowords_begun, kept_step, unbroken, begun_goes, goes_further}
use Rattle.tx_private.proofs.Laid.{laid_beyond, operands_within, AreIn}
use Rattle.tx_serial.proofs.SameCauses.{agreeing}
use Rattle.z_touch.proofs.Reach.{spans_back}
use Rattle.std.proofs.Math.Bool.{or-false, or_assoc}
use Rattle.tx_footprint.proofs.Marking.{touching_twice}

-- ---- spans and ranges

spans_of : (i : Instr) (c : Cpu) → map span_of (operands i c) ≡ ranges_of i c
spans_of i c = spans_back (ranges_of i c)

-- ---- the outcome of the next instruction

seen_inside : (i : Instr) (p : Run) (s : List ℕ) → AreInside (ranges_of i p.cpu) s
    → AreInside (map span_of (operands i p.cpu)) s
seen_inside i p s h = subst (λ rs. AreInside rs s) (sym (spans_of i p.cpu)) h

pub same_outcome : (i : Instr) (p : Run) (seen : List ℕ) → is_prefix p.cpu.prefix ≡ true → IsCopy seen p
    → AreInside (ranges_of i p.cpu) seen
    → outcome_at (length p.nest) i p.cpu seen ≡ outcome_of i (operands i p.cpu) p
same_outcome i p seen ok copy inside =
    ap (one i p.cpu (length p.nest))
    (ap (λ rs. touched rs seen) (sym (spans_of i p.cpu))
    ∙ ap (touched (map span_of (operands i p.cpu))) copy
    ∙ sym (bytes_are_seen p.cpu.prefix p.copy (operands i p.cpu) ok
    (subst (AreInside (map span_of (operands i p.cpu))) copy (seen_inside i p seen inside))))

-- ---- the copies

pub stored_copy : (i : Instr) (p : Run) (s : Storage) (seen : List ℕ) (bytes : List ℕ)
    → is_prefix p.cpu.prefix ≡ true
    → seen ≡ seen_by p.cpu.prefix (bytes_of s) → AreInside (ranges_of i p.cpu) seen
    → with_stored (ranges_of i p.cpu) bytes seen
    ≡ seen_by p.cpu.prefix (bytes_of (laid_over s (operand_stores p.cpu.prefix (operands i p.cpu) bytes)))
stored_copy i p s seen bytes ok copy inside =
    ap (λ rs. with_stored rs bytes seen) (sym (spans_of i p.cpu))
    ∙ ap (with_stored (map span_of (operands i p.cpu)) bytes) copy
    ∙ sym (stores_are_seen p.cpu.prefix s (operands i p.cpu) bytes ok
    (subst (AreInside (map span_of (operands i p.cpu))) copy (seen_inside i p seen inside)))

all_in : (ss : List Span) (s : List ℕ) → length s ≡ storage_size → AreInside ss s → AreIn (map range_of ss)
all_in [] s size h = tt
all_in (r ∷ rs) s size h = (subst (λ n. r.first + r.length ≤ n) size h.0, all_in rs s size h.1)

pub ends_still : (i : Instr) (p : Run) (s : Storage) (seen : List ℕ) (bytes : List ℕ)
    → is_prefix p.cpu.prefix ≡ true
    → length seen ≡ storage_size → AreInside (ranges_of i p.cpu) seen → EndsInTime s
    → EndsInTime (laid_over s (operand_stores p.cpu.prefix (operands i p.cpu) bytes))
ends_still i p s seen bytes ok size inside ends a past =
    laid_beyond (operand_stores p.cpu.prefix (operands i p.cpu) bytes) s a
    (operands_within p.cpu.prefix (operands i p.cpu) ok (all_in (ranges_of i p.cpu) seen size inside) bytes)
    past
    ∙ ends a past

-- ---- the footprint

pub nothing_more : (sets : Sets) → touching sets [] ≡ sets
nothing_more sets = λ k. record {
  fetched = λ line. or-false (sets.fetched line) k;
  stored = λ line. or-false (sets.stored line) k;
  blocks = λ block. or-false (sets.blocks block) k;
}

joined : (a : Bool) (test : Range → Bool) (xs ys : List Range)
    → ((a || list_any test xs) || list_any test ys) ≡ (a || list_any test (xs ++ ys))
joined a test xs ys =
    or_assoc a (list_any test xs) (list_any test ys) ∙ ap (λ b. a || b) (sym (list_any-append test xs ys))

pub touched_more : (p : Run) (absolute : List Range)
    → touching (footprint p) absolute ≡ touching untouched (p.touched ++ absolute)
touched_more p absolute = touching_twice untouched p.touched absolute

-- ---- the steps

-- behind the begin, a step more is one more of the attempt
pub behind_begin : (steps : List Step) (s : Step) → (steps ≡ [] → ⊥)
    → attempt_of (steps ++ s ∷ []) ≡ with_step (attempt_of steps) s
behind_begin [] s some = absurd (some refl)
behind_begin (x ∷ rest) s some = refl

pub begin_stays : (steps : List Step) (s : Step) → (steps ≡ [] → ⊥)
    → (begin_at (steps ++ s ∷ []) ≡ begin_at steps) × (begin_length (steps ++ s ∷ []) ≡ begin_length steps)
begin_stays [] s some = absurd (some refl)
begin_stays (x ∷ rest) s some = (refl, refl)

-- ---- constraints

-- what is permitted in a constrained transaction begins none
abbrev begins_outside : Entry → Bool
begins_outside e = not e.permitted || not (begins e)

none_begins_inside : (n : ℕ) → n < ROWS → begins_outside (entry_at n) ≡ true
none_begins_inside = passes_row begins_outside refl

last_barred : (a : Attempt) (s : Step) → has_barred (with_step a s) ≡ false
    → is_permitted s.instruction ≡ true
last_barred a s h =
    by (list_any (λ t. not (is_permitted t.instruction)) a.steps) (is_permitted s.instruction)
    (sym (list_any-append (λ t. not (is_permitted t.instruction)) a.steps (s ∷ [])) ∙ h)
  where
    by : (x b : Bool) → (x || (not b || false)) ≡ false → b ≡ true
    by true b e = absurd (cc)
    by false true e = refl
    by false false e = absurd (cc)

permitted_by : (a : Attempt) (s : Step) → text_breach (with_step a s) ≡ None
    → is_permitted s.instruction ≡ true
unfolding text_breach
permitted_by a s h =
    let one = unbroken (is_too_long (with_step a s)) 1 _ h in
    let two = unbroken (leaves_its_bytes (with_step a s)) 2 _ one.1 in
    let three = unbroken (has_barred (with_step a s)) 3 None two.1 in
    last_barred a s three.0

pub plain_inside : (a : Attempt) (s : Step) → text_breach (with_step a s) ≡ None
    → begins (entry_at s.instruction.op.number) ≡ false
plain_inside a s h =
    by (entry_at s.instruction.op.number).permitted (begins (entry_at s.instruction.op.number)) _
    (none_begins_inside s.instruction.op.number s.instruction.op.known) (permitted_by a s h)
  where
    by : (x b y : Bool) → (not x || not b) ≡ true → (x && y) ≡ true → b ≡ false
    by true true y e h = absurd (cc)
    by true false y e h = refl
    by false b y e h = absurd (cc)

-- ---- NTSTG

abbrev is_told_apart : Entry → Bool
is_told_apart e = agree (is_lasting_kind e.kind) (stores_lastingly e)

told_apart : (n : ℕ) → n < ROWS → is_told_apart (entry_at n) ≡ true
told_apart = passes_row is_told_apart refl

-- an operation has lasting stores exactly where it is NTSTG
pub lasting_at : (n : ℕ) → n < ROWS → is_lasting_kind (kind_at n) ≡ stores_lastingly (entry_at n)
unfolding kind_at
lasting_at n h = agreeing (is_lasting_kind (entry_at n).kind) (stores_lastingly (entry_at n))
    (told_apart n h)

lasting_is : (k : Kind) → is_lasting_kind k ≡ true → k ≡ kind.Transaction transaction.StoreLasting
lasting_is (kind.Transaction transaction.StoreLasting) h = refl
lasting_is _ h = absurd (cc)

-- what it does needs no byte of storage
pub same_doing : (depth : ℕ) (i : Instr) (c : Cpu) (s t : List ℕ)
    → stores_lastingly (entry_at i.op.number) ≡ true
    → outcome_at depth i c s ≡ outcome_at depth i c t
same_doing depth i c s t h =
    let e = lasting_is (kind_at i.op.number) (lasting_at i.op.number i.op.known ∙ h) in
    ap (λ (q : Kind). effect q (length_of i) i c depth (touched (ranges_of i c) s)) e
    ∙ sym (ap (λ (q : Kind). effect q (length_of i) i c depth (touched (ranges_of i c) t)) e)

-- ---- what is kept of the constraints

pub some_steps : (steps : List Step) → false ≡ is_empty steps → steps ≡ [] → ⊥
some_steps steps h e = true≢false (sym (h ∙ ap is_empty e))

pub no_steps : (steps : List Step) → true ≡ is_empty steps → steps ≡ []
no_steps [] h = refl
no_steps (s ∷ steps) h = absurd (true≢false h)

-- behind a begin outside transactions
pub limited_first : (p : Run) (q : Run) (i : Instr) (k : Kept) (s : Step) (b : Begin) → p.steps ≡ []
    → q.steps ≡ p.steps ++ s ∷ [] → q.nest ≡ b ∷ [] → k ≡ kept_at s.at → IsLimited k q
limited_first p q i k s b none steps nest keeps =
    let all : q.steps ≡ s ∷ [] = steps ∙ ap (λ xs. xs ++ s ∷ []) none in
    record {
      keeps = keeps ∙ sym (octowords_begun s.at) ∙ ap (λ xs. kept (attempt_of xs)) (sym all);
      goes_on = subst (λ xs. GoesOn (attempt_of xs)) (sym all) (begun_goes s.at);
      one = ap (λ (n : List Begin). length n) nest;
    }

-- and behind each instruction more
pub limited_more : (p q : Run) (k l : Kept) (s : Step) → IsLimited k p → (p.steps ≡ [] → ⊥)
    → q.steps ≡ p.steps ++ s ∷ [] → q.nest ≡ p.nest → l ≡ added k s.ranges → ends s.instruction ≡ false
    → text_breach (with_step (attempt_of p.steps) s) ≡ None
    → operand_breach (with_step (attempt_of p.steps) s) ≡ None → IsLimited l q
limited_more p q k l s old some steps nest keeps unended text places =
    let all : attempt_of q.steps ≡ with_step (attempt_of p.steps) s =
    ap attempt_of steps ∙ behind_begin p.steps s some in
    record {
      keeps = keeps ∙ ap (λ j. added j s.ranges) old.keeps ∙ sym (kept_step (attempt_of p.steps) s)
          ∙ ap kept (sym all);
      goes_on = subst GoesOn (sym all) (goes_further (attempt_of p.steps) s old.goes_on unended text places);
      one = ap (λ (n : List Begin). length n) nest ∙ old.one;
    }
