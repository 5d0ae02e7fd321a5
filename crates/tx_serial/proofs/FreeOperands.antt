-- What an instruction that passes the tests of a run stores, and the block that it names, lie where the CPU
-- may store.
use Rattle.std.proofs.Common.{◌≡◌, ℕ, ◌+◌, ◌<◌, ◌≤◌, Bool, true, false, List, [], ◌∷◌, Option, Some, None}
use Rattle.std.proofs.Common.{refl, sym, ap, subst, ◌∙◌, arith, length, lit<, lit≤}
use Rattle.std.specs.Prelude.{◌&&◌, ◌||◌, not, map, cond, nat_eq, nat_le, nat_lt}
use Rattle.std.specs.List.{list_any, list_all, All}
use Rattle.std.proofs.lemmas.Bool.{and_parts, and_from, lt-ltb, le-leb, true≢false, false_from_ne_true, or_parts}
use Rattle.std.proofs.lemmas.List.Elements.{All-head, All-tail}
use Rattle.z_regs.specs.Cpu.{Cpu}
use Rattle.z_regs.specs.Prefix.{absolute_of, is_prefix, is_accessible}
use Rattle.z_regs.specs.declared.ranges.Range.{Range}
use Rattle.z_instr.specs.declared.instr.Instr.{Instr}
use Rattle.z_instr.specs.declared.operand.Operands.{Operands}
use Rattle.z_instr.specs.declared.operand.Operands.TheVariants.{Absent}
use Rattle.z_instr.specs.declared.operand.Demand.{Demand}
use Rattle.z_instr.specs.declared.operand.Demand.TheVariants.{Nothing, EvenPair, Boundary, AbortCode, Begin}
use Rattle.z_instr.specs.declared.operand.Demand.TheVariants.{BeginConstrained, ServiceZero}
use Rattle.z_instr.specs.Table.{Entry, entry_at}
use Rattle.z_instr.specs.declared.table.TheConstants.{ROWS}
use Rattle.z_instr.specs.Facts.{is_begin}
use Rattle.z_instr.specs.Roles.{may_name_block, block_named, begins}
use Rattle.z_instr.specs.Operands.{Span, span, IsSmall, spans, spans_in, is_inside, is_stored_into}
use Rattle.z_instr.specs.Operands.{tested_spans}
use Rattle.z_instr.specs.Operands.{where_wrong, addressing, protection, inaccessible_in, inaccessible}
use Rattle.z_regs.specs.Cpu.{Cpu}
use Rattle.z_instr.specs.Operands.{first_address}
use Rattle.z_instr.specs.Access.{accessible_pages, text_pages, lies_in}
use Rattle.z_instr.proofs.TableFacts.{passes_row}
use Rattle.z_instr.proofs.SmallOperands.{sizes}
use Rattle.z_instr.proofs.PlainImmediates.{implied}
use Rattle.z_touch.specs.Refusals.{range_of}
use Rattle.z_touch.proofs.SmallRanges.{inside_ends, inside_without}
use Rattle.z_touch.proofs.StoredText.{stored_text}
use Rattle.tx_control.specs.declared.begins.Begin as opened
use Rattle.tx_serial.specs.Attempt.{Run}
use Rattle.tx_serial.specs.Fate.{Refusal, first_refusal, tests, operand_refusal, excepted, operands}
use Rattle.tx_serial.specs.Fate.{text_refusal, restricted_refusal, specified_refusal, depth_refusal}
use Rattle.tx_serial.specs.Fate.{place_refusal, overflow_refusal}
use Rattle.tx_serial.specs.Text.{IsFree}
use Rattle.z_regs.specs.Absolute.{IsAccessible}

-- ---- what is found by no test

pub none_first : (o : Option Refusal) (rest : List (Option Refusal)) → first_refusal (o ∷ rest) ≡ None
    → first_refusal rest ≡ None
none_first None rest h = h
none_first (Some r) rest h = absurd (cc)

pub found_none : (o : Option Refusal) (rest : List (Option Refusal)) → first_refusal (o ∷ rest) ≡ None → o ≡ None
found_none None rest h = refl
found_none (Some r) rest h = absurd (cc)

pub no_operand_refusal : (text : List ℕ) (p : Run) (i : Instr) → first_refusal (tests text p i) ≡ None
    → operand_refusal text p i ≡ None
no_operand_refusal text p i h =
    found_none (operand_refusal text p i) (place_refusal p i ∷ overflow_refusal p i ∷ [])
    (none_first (depth_refusal p i) _
    (none_first (specified_refusal p i) _
    (none_first (restricted_refusal p i) _
    (none_first (text_refusal p i) _ h))))

pub not_excepted : (i : Instr) (o : Option ℕ) → excepted i o ≡ None → o ≡ None
not_excepted i None h = refl
not_excepted i (Some code) h = absurd (cc)

-- ---- spans that pass

record ArePassed (accessible text : List ℕ) (ss : List Span) : Type 0 where
  inside : list_all (is_inside accessible) ss ≡ true
  apart : list_any (is_stored_into text) ss ≡ false

both_right : (a b : Bool) (after : Option ℕ)
    → where_wrong (not a) addressing (where_wrong b protection after) ≡ None → (a ≡ true) × (b ≡ false)
both_right true true after h = absurd (cc)
both_right true false after h = (refl, refl)
both_right false b after h = absurd (cc)

tested_pass : (e : Entry) (i : Instr) (general : List ℕ) (code depth : ℕ) (accessible text : List ℕ)
    → inaccessible_in e i general code depth accessible text ≡ None
    → ArePassed accessible text (tested_spans e.demand (spans_in e.operands i general code) i general depth)
unfolding inaccessible_in
tested_pass e i general code depth accessible text h =
    let tested = tested_spans e.demand (spans_in e.operands i general code) i general depth in
    let right = both_right (list_all (is_inside accessible) tested) (list_any (is_stored_into text) tested) _
    h in
    record { inside = right.0; apart = right.1 }

-- a begin has no operand
abbrev pub is_absent : Operands → Bool
is_absent Absent = true
is_absent _ = false

abbrev begins_bare : Entry → Bool
begins_bare e = not (is_begin e.demand) || is_absent e.operands

all_begin_bare : (n : ℕ) → n < ROWS → begins_bare (entry_at n) ≡ true
all_begin_bare = passes_row begins_bare refl

pub absent : (o : Operands) → is_absent o ≡ true → o ≡ Absent
absent Absent h = refl
absent _ h = absurd (cc)

no_spans : (o : Operands) (i : Instr) (general : List ℕ) (code : ℕ) → o ≡ Absent
    → spans_in o i general code ≡ []
unfolding spans_in
no_spans o i general code e = ap (λ q. spans_in q i general code) e

none_pass : (accessible text : List ℕ) (ss : List Span) → ss ≡ [] → ArePassed accessible text ss
none_pass accessible text ss e = subst (ArePassed accessible text) (sym e) record {
  inside = refl;
  apart =
      refl;
}

-- so its operands pass where what is tested does
spans_pass : (d : Demand) (o : Operands) (i : Instr) (general : List ℕ) (code depth : ℕ) (accessible text :
    List ℕ)
    → (not (is_begin d) || is_absent o) ≡ true
    → ArePassed accessible text (tested_spans d (spans_in o i general code) i general depth)
    → ArePassed accessible text (spans_in o i general code)
spans_pass Nothing o i general code depth accessible text bare h = h
spans_pass EvenPair o i general code depth accessible text bare h = h
spans_pass Boundary o i general code depth accessible text bare h = h
spans_pass AbortCode o i general code depth accessible text bare h = h
spans_pass Begin o i general code depth accessible text bare h =
    none_pass accessible text (spans_in o i general code) (no_spans o i general code (absent o bare))
spans_pass BeginConstrained o i general code depth accessible text bare h = h
spans_pass ServiceZero o i general code depth accessible text bare h = h

-- ---- bytes of a span that passes

pub usable : (prefix : Option ℕ) (s : Span) (k : ℕ) → IsSmall s → is_inside (accessible_pages prefix) s ≡ true
    → k < s.length → is_accessible prefix (s.first + k) ≡ true
usable None s k small inside h =
    let ends = (inside_without s small).0 inside in
    let low : 8192 ≤ s.first + k = omega (arith, ends.0) in
    let high : s.first + k < 1048576 = omega (arith, ends.1) in
    and_from (nat_le 8192 (s.first + k)) (nat_lt (s.first + k) 1048576) (le-leb 8192 (s.first + k) low)
    (lt-ltb (s.first + k) 1048576 high)
usable (Some p) s k small inside h =
    let ends = inside_ends (Some p) s small inside in
    let high : s.first + k < 1048576 = omega (arith, ends) in
    lt-ltb (s.first + k) 1048576 high

free_byte : (prefix : Option ℕ) (text : List ℕ) (s : Span) (k : ℕ) → is_prefix prefix ≡ true → IsSmall s
    → is_inside (accessible_pages prefix) s ≡ true → is_stored_into (text_pages prefix text) s ≡ false
    → s.store ≡ true → k < s.length → IsFree prefix text (s.first + k)
free_byte prefix text s k ok small inside apart stored h = record {
  accessible = usable prefix s k small inside h;
  plain = false_from_ne_true (lies_in text (absolute_of prefix (s.first + k))) (λ e.
      let ends = inside_ends prefix s small inside in
      let within : s.first + k < 1048576 = omega (arith, ends) in
      let hit = (stored_text prefix text s ok small).1 (stored, (k, h, (within, e))) in
      true≢false (sym hit ∙ apart));
}

-- ---- stored operands

-- each byte of each stored operand is free
abbrev pub AreFree : Option ℕ → List ℕ → List Range → Type 0
AreFree prefix text [] = Unit {0}
AreFree prefix text (r ∷ rs) =
    (r.store ≡ true → (k : ℕ) → k < r.length → IsFree prefix text (r.first + k)) × AreFree prefix text rs

free_spans : (prefix : Option ℕ) (text : List ℕ) (ss : List Span) → is_prefix prefix ≡ true → All IsSmall ss
    → list_all (is_inside (accessible_pages prefix)) ss ≡ true
    → list_any (is_stored_into (text_pages prefix text)) ss ≡ false
    → AreFree prefix text (map range_of ss)
free_spans prefix text [] ok small inside apart = tt
free_spans prefix text (s ∷ ss) ok small inside apart =
    let in_all = and_parts (is_inside (accessible_pages prefix) s)
    (list_all (is_inside (accessible_pages prefix)) ss) inside in
    let in_none = or_parts (is_stored_into (text_pages prefix text) s)
    (list_any (is_stored_into (text_pages prefix text)) ss) apart in (
      λ stored k h. free_byte prefix text s k ok (All-head IsSmall s ss small) in_all.0 in_none.0 stored h,
      free_spans prefix text ss ok (All-tail IsSmall s ss small) in_all.1 in_none.1,
    )

-- where the test of operands finds nothing, all of them pass
spans_passed : (text : List ℕ) (i : Instr) (c : Cpu) (depth : ℕ)
    → inaccessible i c.general c.condition depth (accessible_pages c.prefix) (text_pages c.prefix text) ≡ None
    → ArePassed (accessible_pages c.prefix) (text_pages c.prefix text) (spans i c.general c.condition)
spans_passed text i c depth h =
    let e = entry_at i.op.number in
    spans_pass e.demand e.operands i c.general c.condition depth (accessible_pages c.prefix)
    (text_pages c.prefix text) (all_begin_bare i.op.number i.op.known)
    (tested_pass e i c.general c.condition depth (accessible_pages c.prefix) (text_pages c.prefix text) h)

operands_pass : (text : List ℕ) (p : Run) (i : Instr) → operand_refusal text p i ≡ None
    → ArePassed (accessible_pages p.cpu.prefix) (text_pages p.cpu.prefix text)
    (spans i p.cpu.general p.cpu.condition)
operands_pass text p i h = spans_passed text i p.cpu (length p.nest) (not_excepted i _ h)

pub operands_inside : (text : List ℕ) (p : Run) (i : Instr) → operand_refusal text p i ≡ None
    → list_all (is_inside (accessible_pages p.cpu.prefix)) (spans i p.cpu.general p.cpu.condition) ≡ true
operands_inside text p i h = (operands_pass text p i h).inside

-- a begin has no operand
pub begin_bare : (i : Instr) (c : Cpu) → begins (entry_at i.op.number) ≡ true → operands i c ≡ []
begin_bare i c h =
    let e = entry_at i.op.number in
    ap (map range_of)
    (no_spans e.operands i c.general c.condition
    (absent e.operands (implied (is_begin e.demand) (is_absent e.operands) (all_begin_bare i.op.number
    i.op.known) h)))

pub free_operands : (text : List ℕ) (p : Run) (i : Instr) → is_prefix p.cpu.prefix ≡ true
    → first_refusal (tests text p i) ≡ None → AreFree p.cpu.prefix text (operands i p.cpu)
free_operands text p i ok h =
    let c = p.cpu in
    let passed = operands_pass text p i (no_operand_refusal text p i h) in
    free_spans c.prefix text (spans i c.general c.condition) ok
    (sizes (entry_at i.op.number).operands i c.general c.condition) passed.inside passed.apart

-- ---- the block that an outermost begin names

small_block : (a : ℕ) → IsSmall (span a 256 true)
small_block a = record { some = lit< tt; most = lit≤ tt }

-- a begin that names a block outside transactions
named : (d : Demand) (b : Bool) (a x : ℕ) → cond (may_name_block d && b) (Some a) None ≡ Some x
    → (d ≡ Begin) × (b ≡ true) × (a ≡ x)
named Begin true a x h = (refl, refl, cc)
named Begin false a x h = absurd (cc)
named Nothing b a x h = absurd (cc)
named EvenPair b a x h = absurd (cc)
named Boundary b a x h = absurd (cc)
named AbortCode b a x h = absurd (cc)
named BeginConstrained b a x h = absurd (cc)
named ServiceZero b a x h = absurd (cc)

block_tested : (d : Demand) (ss : List Span) (i : Instr) (general : List ℕ) → d ≡ Begin
    → not (nat_eq i.b 0) ≡ true
    → tested_spans d ss i general 0 ≡ span (first_address i general) 256 true ∷ []
block_tested d ss i general e b =
    ap (λ q. tested_spans q ss i general 0) e
    ∙ ap (λ t. cond t (span (first_address i general) 256 true ∷ []) ss) b

pub free_block : (text : List ℕ) (p : Run) (i : Instr) (a : ℕ) → is_prefix p.cpu.prefix ≡ true → p.nest ≡ []
    → first_refusal (tests text p i) ≡ None → block_named i p.cpu.general ≡ Some a
    → (k : ℕ) → k < 256 → IsFree p.cpu.prefix text (a + k)
free_block text p i a ok outside h names k below =
    let c = p.cpu in
    let e = entry_at i.op.number in
    let s = span (first_address i c.general) 256 true in
    let n = named e.demand (not (nat_eq i.b 0)) (first_address i c.general) a names in
    let ss = spans i c.general c.condition in
    let accessible = accessible_pages c.prefix in
    let pages = text_pages c.prefix text in
    let tested = tested_pass e i c.general c.condition (length p.nest) accessible pages
    (not_excepted i _ (no_operand_refusal text p i h)) in
    let is_block : tested_spans e.demand ss i c.general (length p.nest) ≡ s ∷ [] =
    ap (λ (nest : List opened.Begin). tested_spans e.demand ss i c.general (length nest)) outside
    ∙ block_tested e.demand ss i c.general n.0 n.1 in
    let passed = subst (ArePassed accessible pages) is_block tested in
    let in_all = and_parts (is_inside accessible s) true passed.inside in
    let in_none = or_parts (is_stored_into pages s) false passed.apart in
    subst (λ first. IsFree c.prefix text (first + k)) n.2
    (free_byte c.prefix text s k ok (small_block (first_address i c.general)) in_all.0 in_none.0 refl below)

-- ---- by the test of operands alone

-- the operands of an instruction that passes it are inside
pub inside_operands : (text : List ℕ) (i : Instr) (c : Cpu) (depth : ℕ)
    → inaccessible i c.general c.condition depth (accessible_pages c.prefix) (text_pages c.prefix text) ≡ None
    → list_all (is_inside (accessible_pages c.prefix)) (spans i c.general c.condition) ≡ true
inside_operands text i c depth h = (spans_passed text i c depth h).inside

-- and those that are stored lie in no text
pub operands_free : (text : List ℕ) (i : Instr) (c : Cpu) (depth : ℕ) → is_prefix c.prefix ≡ true
    → inaccessible i c.general c.condition depth (accessible_pages c.prefix) (text_pages c.prefix text) ≡ None
    → AreFree c.prefix text (operands i c)
operands_free text i c depth ok h =
    let passed = spans_passed text i c depth h in
    free_spans c.prefix text (spans i c.general c.condition) ok
    (sizes (entry_at i.op.number).operands i c.general c.condition) passed.inside passed.apart

-- and so is the block that an outermost begin names
pub inside_block : (text : List ℕ) (i : Instr) (c : Cpu) (a : ℕ)
    → inaccessible i c.general c.condition 0 (accessible_pages c.prefix) (text_pages c.prefix text) ≡ None
    → block_named i c.general ≡ Some a → a + 256 ≤ 1048576
inside_block text i c a h names =
    let e = entry_at i.op.number in
    let s = span (first_address i c.general) 256 true in
    let n = named e.demand (not (nat_eq i.b 0)) (first_address i c.general) a names in
    let ss = spans i c.general c.condition in
    let accessible = accessible_pages c.prefix in
    let pages = text_pages c.prefix text in
    let tested = tested_pass e i c.general c.condition 0 accessible pages h in
    let passed = subst (ArePassed accessible pages) (block_tested e.demand ss i c.general n.0 n.1) tested in
    let in_all = and_parts (is_inside accessible s) true passed.inside in
    subst (λ first. first + 256 ≤ 1048576) n.2
    (inside_ends c.prefix s (small_block (first_address i c.general)) in_all.0)

pub accessible_span : (prefix : Option ℕ) (s : Span) → IsSmall s → is_inside (accessible_pages prefix) s ≡ true
    → IsAccessible prefix (range_of s)
accessible_span prefix s small inside = record {
  first = subst (λ a. is_accessible prefix a ≡ true) (let e : s.first + 0 ≡ s.first = omega arith in e)
      (usable prefix s 0 small inside small.some);
  end = inside_ends prefix s small inside;
  most = small.most;
}
