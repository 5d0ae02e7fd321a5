-- Which exception ranges meet, by the tests on them one by one.
use Rattle.std.proofs.Common.{◌≡◌, ℕ, Bool, true, false, ◌||◌, not, List, [], ◌∷◌, map, Option, None, Some, Ok, Err, refl, ap, ◌∙◌}
use Rattle.std.specs.List.{list_any, list_all}
use Rattle.std.specs.Prelude.{All}
use Rattle.std.proofs.lemmas.List.Folds.{list_all-map}
use Rattle.std.proofs.lemmas.List.Elements.{All-map}
use Rattle.z_instr.specs.declared.instr.Instr.{Instr}
use Rattle.z_instr.specs.declared.operand.Demand.{Demand}
use Rattle.z_instr.specs.declared.operand.Operands.{Operands}
use Rattle.tx_control.specs.declared.exceptions.Exception.{Exception}
use Rattle.z_instr.specs.Table.{entry_at}
use Rattle.z_instr.specs.Operands.{Span, IsSmall, spans, spans_in, inaccessible, inaccessible_in, is_inside, is_stored_into, where_wrong, addressing, protection}
use Rattle.z_regs.specs.declared.ranges.Range.{Range}
use Rattle.z_touch.specs.Refusals.{range_of, span_of, unreachable, denial, answer, refused}
use Rattle.std.proofs.Common.{◌≢◌}
use Rattle.std.proofs.lemmas.Bool.{true≢false}
use Rattle.z_instr.specs.Facts.{is_begin}
use Rattle.z_instr.specs.Operands.{tested_spans}
use Rattle.z_instr.specs.declared.operand.Demand.TheVariants.{Nothing, EvenPair, Boundary, AbortCode, Begin}
use Rattle.z_instr.specs.declared.operand.Demand.TheVariants.{BeginConstrained, ServiceZero}

list_any-map : (p : Span → Bool) (ranges : List Range) →
    list_any p (map span_of ranges) ≡ list_any (λ r. p (span_of r)) ranges
list_any-map p [] = refl
list_any-map p (r ∷ ranges) = ap (λ b. p (span_of r) || b) (list_any-map p ranges)

-- ---- which exception

pub beyond : (ranges : List Range) (accessible text : List ℕ) (after : Option ℕ) →
    list_all (λ r. is_inside accessible (span_of r)) ranges ≡ false →
    unreachable (map span_of ranges) accessible text after ≡ Some addressing
beyond ranges accessible text after e =
    ap (λ b. where_wrong (not b) addressing
    (where_wrong (list_any (is_stored_into text) (map span_of ranges)) protection after))
    (list_all-map (is_inside accessible) span_of ranges ∙ e)

pub inside : (ranges : List Range) (accessible text : List ℕ) (after : Option ℕ) (b : Bool) →
    list_all (λ r. is_inside accessible (span_of r)) ranges ≡ true →
    list_any (λ r. is_stored_into text (span_of r)) ranges ≡ b →
    unreachable (map span_of ranges) accessible text after ≡ where_wrong b protection after
inside ranges accessible text after b e f =
    ap (λ a. where_wrong (not a) addressing
    (where_wrong (list_any (is_stored_into text) (map span_of ranges)) protection after))
    (list_all-map (is_inside accessible) span_of ranges ∙ e)
    ∙ ap (λ a. where_wrong a protection after) (list_any-map (is_stored_into text) ranges ∙ f)

-- ---- ranges and spans

pub spans_back : (s : List Span) → map span_of (map range_of s) ≡ s
spans_back [] = refl
spans_back (x ∷ xs) = ap (λ t. x ∷ t) (spans_back xs)

pub small_ranges : (s : List Span) → All IsSmall s → All (λ r. IsSmall (span_of r)) (map range_of s)
small_ranges s h = All-map (λ r. IsSmall (span_of r)) range_of s h

pub denial_is : (i : Instr) (general : List ℕ) (condition depth : ℕ) (accessible text : List ℕ) →
    denial (entry_at i.op.number).demand (spans i general condition) i general depth accessible text ≡
    inaccessible i general condition depth accessible text
unfolding inaccessible_in
denial_is i general condition depth accessible text = refl

pub denied_is : (i : Instr) (general : List ℕ) (condition depth : ℕ) (accessible text : List ℕ)
    (demand : Demand)
    (ranges : List Range) → demand ≡ (entry_at i.op.number).demand →
    ranges ≡ map range_of (spans i general condition) →
    denial demand (map span_of ranges) i general depth accessible text ≡
    inaccessible i general condition depth accessible text
denied_is i general condition depth accessible text demand ranges e f =
    (λ k. denial (e k) (map span_of (f k)) i general depth accessible text)
    ∙ ap (λ s. denial (entry_at i.op.number).demand s i general depth accessible text)
    (spans_back (spans i general condition))
    ∙ denial_is i general condition depth accessible text

pub ranges_of_row : (i : Instr) (general : List ℕ) (condition : ℕ) (o : Operands) (ranges : List Range)
    → o ≡ (entry_at i.op.number).operands → ranges ≡ map range_of (spans_in o i general condition) →
    ranges ≡ map range_of (spans i general condition)
ranges_of_row i general condition o ranges e f = f ∙ ap (λ p. map range_of (spans_in p i general condition)) e

-- ---- answers

pub answer_fits : (o : Option ℕ) (i : Instr) (fits : Unit {0}) → None ≡ o → Ok fits ≡ answer o i fits
answer_fits o i fits e = ap (λ p. answer p i fits) e

pub answer_refused : (o : Option ℕ) (i : Instr) (fits : Unit {0}) (code : ℕ) (x : Exception)
    → Some code ≡ o → x ≡ refused i code → Err x ≡ answer o i fits
answer_refused o i fits code x e f = ap Err f ∙ ap (λ p. answer p i fits) e

pub accessible : (a : Bool) (code : ℕ) (rest : Option ℕ) → where_wrong (not a) code rest ≡ None → a ≡ true
accessible true code rest h = refl
accessible false code rest h = absurd (cc)

pub tested_all : (d : Demand) (ss : List Span) (i : Instr) (general : List ℕ) (depth : ℕ) → is_begin d ≡ false
    → tested_spans d ss i general depth ≡ ss
tested_all Nothing ss i general depth h = refl
tested_all EvenPair ss i general depth h = refl
tested_all Boundary ss i general depth h = refl
tested_all AbortCode ss i general depth h = refl
tested_all Begin ss i general depth h = absurd (true≢false h)
tested_all BeginConstrained ss i general depth h = absurd (true≢false h)
tested_all ServiceZero ss i general depth h = refl
