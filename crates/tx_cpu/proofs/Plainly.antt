-- An instruction goes whose operand lies where a plain one may touch it, and which the attempt admits.
use Rattle.std.proofs.Common.{◌≡◌, ℕ, ◌+◌, ◌-◌, ◌*◌, ◌/◌, ◌%◌, ◌<◌, ◌≤◌, Bool, true, false, List, [], ◌∷◌}
use Rattle.std.proofs.Common.{None, Ok, refl, sym, ap, subst, ◌∙◌, arith, length}
use Rattle.std.specs.Prelude.{◌&&◌, ◌||◌, not, cond, map, All, nat_eq, nat_lt, nat_le}
use Rattle.std.specs.List.{list_any, list_all}
use Rattle.std.proofs.lemmas.Bool.{true≢false, and_parts, not-true, cases_Bool}
use borrow.Enum.Arm.{by_way}
use Rattle.std.proofs.lemmas.Bool.Decides.{nat_tests}
use Rattle.std.proofs.lemmas.List.Elements.{All-head}
use Rattle.z_regs.specs.Cpu.{Cpu}
use Rattle.z_regs.specs.Prefix.{storage_size, absolute_of}
use Rattle.z_regs.specs.Absolute.{absolute_ranges}
use Rattle.z_regs.specs.declared.ranges.Range.{Range}
use Rattle.z_instr.specs.declared.instr.Instr.{Instr}
use Rattle.z_instr.specs.declared.operand.Size.{Size}
use Rattle.z_instr.specs.declared.operand.Size.TheVariants.{Byte}
use Rattle.z_instr.specs.declared.operand.Operands.{Operands}
use Rattle.z_instr.specs.declared.operand.Operands.TheVariants.{Absent, Fetched, Stored, FetchedMany, StoredMany}
use Rattle.z_instr.specs.declared.operand.Operands.TheVariants.{FetchedSelected, StoredSelected}
use Rattle.z_instr.specs.declared.operand.Operands.TheVariants.{StoredAndFetched, BothFetched}
use Rattle.z_instr.specs.declared.operand.Demand.{Demand}
use Rattle.z_instr.specs.declared.operand.Demand.TheVariants as demand
use Rattle.z_instr.specs.Operands.{Span, span, IsSmall, bytes_of, boundary, first_address, spans_in, from_up}
use Rattle.z_instr.specs.Operands.{registers_between, where_wrong, specification, addressing, protection}
use Rattle.z_instr.specs.Operands.{operation, unspecified_in, unspecified, is_inside, is_stored_into, tested_spans}
use Rattle.z_instr.specs.Operands.{is_refused_service, inaccessible_in, inaccessible}
use Rattle.z_instr.specs.Access.{accessible_pages, text_pages}
use Rattle.z_instr.specs.Reading.{modulo}
use Rattle.z_instr.specs.Roles.{begins, sets_access_register}
use Rattle.z_instr.specs.Table.{Entry, entry_at}
use Rattle.z_instr.proofs.SmallOperands.{sizes}
use Rattle.z_touch.specs.Refusals.{range_of}
use Rattle.z_touch.proofs.SmallRanges.{inside_without}
use Rattle.tx_constraint.specs.Kept.{next_operand_breach}
use Rattle.tx_control.specs.Nesting.{effective_a}
use Rattle.tx_control.specs.declared.begins.Begin.{Begin}
use Rattle.tx_footprint.specs.Touched.{Sets, touching, fit_of}
use Rattle.tx_serial.specs.Fate.{Goes, operands, is_restricted, overflow_in, overflow_of}
use Rattle.tx_progress.specs.Progress.{Progress, resting}
use Rattle.tx_progress.specs.Trial.{fate_by_progress, text_refusal_by, constraint_refusal}
use Rattle.tx_cpu.specs.Admits.{Admits}
use Rattle.tx_program.specs.declared.ready.Ready.{Ready}
use Rattle.tx_program.specs.declared.ready.Shape.{Shape}
use Rattle.tx_program.specs.declared.ready.Touch.{Touch}
use Rattle.tx_program.specs.declared.ready.Touch.TheVariants as touch
use Rattle.tx_attempt.specs.Storages.{storage_of}
use Rattle.tx_attempt.specs.Plain.{IsPlain}
use Rattle.tx_attempt.specs.Tracked.{Tracked, progress}
use Rattle.tx_program.specs.Shapes.{shape_in, boundary_size, shape_by, is_other, IsReady, touched_by, is_in_line, is_open}
use Rattle.tx_program.proofs.Placed.{nothing-touched}
use Rattle.tx_program.specs.Shapes.{is_reached, is_admitted, is_bare_begin, is_nothing, no_shape}
use Rattle.tx_cpu.proofs.Goes.{read-touches}
use Rattle.tx_cpu.proofs.Programs.{plain_reading}
use Rattle.tx_cpu.proofs.Passing.{open-page, ArePassed, tests-pass, passing-goes}
use Rattle.z_regs.proofs.MovedBytes.{ranges_stay}
use Rattle.std.proofs.Math.Bool.{and-false}

-- ---- begins whose shape is known

-- a shape is known where the test holds that it is asked for
where-known : (b : Bool) (s : Shape) → is_other (cond b s no_shape).touch ≡ false → b ≡ true
where-known true s h = refl
where-known false s h = absurd (true≢false h)

bare-begin : (i : Instr) (s : Shape) → is_other (cond (is_bare_begin i) s no_shape).touch ≡ false
    → (nat_eq i.b 0 ≡ true) × (not (nat_eq (modulo 16 i.imm % 4) 3) ≡ true)
bare-begin i s known = and_parts (nat_eq i.b 0) _ (where-known (is_bare_begin i) s known)

-- ---- no more is demanded than a boundary

bounded : (o : Operands) (i : Instr) (general : List ℕ) → is_other (shape_in o (boundary_size o) i).touch ≡ false
    → nat_eq (first_address i general % bytes_of (shape_in o (boundary_size o) i).boundary) 0 ≡ true
    → where_wrong (not (nat_eq (first_address i general % boundary o) 0)) specification None ≡ None
bounded Absent i general known h = ap (λ b. where_wrong (not b) specification None) h
bounded (Fetched size) i general known h = ap (λ b. where_wrong (not b) specification None) h
bounded (Stored size) i general known h = ap (λ b. where_wrong (not b) specification None) h
bounded (FetchedMany size) i general known h = ap (λ b. where_wrong (not b) specification None) h
bounded (StoredMany size) i general known h = ap (λ b. where_wrong (not b) specification None) h
bounded FetchedSelected i general known h = absurd (true≢false known)
bounded StoredSelected i general known h = absurd (true≢false known)
bounded StoredAndFetched i general known h = absurd (true≢false known)
bounded BothFetched i general known h = absurd (true≢false known)

well-specified : (d : Demand) (o : Operands) (i : Instr) (general : List ℕ) (depth : ℕ)
    → is_other (shape_by d o i).touch ≡ false
    → nat_eq (first_address i general % bytes_of (shape_by d o i).boundary) 0 ≡ true
    → unspecified_in d o i general depth ≡ None
unfolding unspecified_in
well-specified demand.Nothing o i general depth known h = refl
well-specified demand.Boundary o i general depth known h = bounded o i general known h
well-specified demand.EvenPair o i general depth known h = absurd (true≢false known)
well-specified demand.AbortCode o i general depth known h = absurd (true≢false known)
well-specified demand.Begin o i general depth known h =
    let p = bare-begin i (shape_in o Byte i) known in
    let filtered = not-true (nat_eq (modulo 16 i.imm % 4) 3) p.1 in
    λ k. where_wrong (filtered k || (not (p.0 k) && not (nat_eq (first_address i general % 8) 0))) specification None
well-specified demand.BeginConstrained o i general depth known h =
    let bare = where-known (nat_eq i.b 0) (shape_in o Byte i) known in
    λ k. where_wrong (not (bare k)) specification None
well-specified demand.ServiceZero o i general depth known h = absurd (true≢false known)

-- ---- the operand is the one of the row

ranges-in : (o : Operands) (b : Size) (i : Instr) (general : List ℕ) (code : ℕ)
    → is_other (shape_in o b i).touch ≡ false
    → touched_by (shape_in o b i).touch (first_address i general) (shape_in o b i).size
    ≡ map range_of (spans_in o i general code)
unfolding spans_in
ranges-in Absent b i general code known = refl
ranges-in (Fetched size) b i general code known = refl
ranges-in (Stored size) b i general code known = refl
ranges-in (FetchedMany size) b i general code known = refl
ranges-in (StoredMany size) b i general code known = refl
ranges-in FetchedSelected b i general code known = absurd (true≢false known)
ranges-in StoredSelected b i general code known = absurd (true≢false known)
ranges-in StoredAndFetched b i general code known = absurd (true≢false known)
ranges-in BothFetched b i general code known = absurd (true≢false known)

ranges-where : (b : Bool) (o : Operands) (i : Instr) (general : List ℕ) (code : ℕ)
    → is_other (cond b (shape_in o Byte i) no_shape).touch ≡ false
    → touched_by (cond b (shape_in o Byte i) no_shape).touch (first_address i general)
    (cond b (shape_in o Byte i) no_shape).size ≡ map range_of (spans_in o i general code)
ranges-where true o i general code known = ranges-in o Byte i general code known
ranges-where false o i general code known = absurd (true≢false known)

ranges-by : (d : Demand) (o : Operands) (i : Instr) (general : List ℕ) (code : ℕ)
    → is_other (shape_by d o i).touch ≡ false
    → touched_by (shape_by d o i).touch (first_address i general) (shape_by d o i).size
    ≡ map range_of (spans_in o i general code)
ranges-by demand.Nothing o i general code known = ranges-in o Byte i general code known
ranges-by demand.Boundary o i general code known = ranges-in o (boundary_size o) i general code known
ranges-by demand.EvenPair o i general code known = absurd (true≢false known)
ranges-by demand.AbortCode o i general code known = absurd (true≢false known)
ranges-by demand.Begin o i general code known =
    ranges-where (is_bare_begin i) o i general code known
ranges-by demand.BeginConstrained o i general code known =
    ranges-where (nat_eq i.b 0) o i general code known
ranges-by demand.ServiceZero o i general code known = absurd (true≢false known)

-- ---- bytes in one line

pub record InLine (first n : ℕ) : Type 0 where
  pub low : 8192 ≤ first
  pub below : first < 1048576
  pub line : first % 256 + n ≤ 256

pub in-line : (first n : ℕ) → is_in_line first n ≡ true → InLine first n
in-line first n h =
    let a = and_parts (nat_le 8192 first) _ h in
    let b = and_parts (nat_lt first storage_size) _ a.1 in
    record {
      low = grind (arith, nat_tests, a.0);
      below = grind (arith, nat_tests, b.0);
      line = grind (arith, nat_tests, b.1);
    }

pub line-end : (first n : ℕ) → InLine first n → first + n ≤ 1048576
line-end first n l = let b = l.below in let e = l.line in omega (arith, b, e)

inside-line : (first n : ℕ) (store : Bool) → IsSmall (span first n store) → InLine first n
    → is_inside (accessible_pages None) (span first n store) ≡ true
inside-line first n store small l = (inside_without (span first n store) small).1 (l.low, line-end first n l)

one-page : (first n : ℕ) → 0 < n → first % 256 + n ≤ 256 → (first + n - 1) / 4096 + 1 - first / 4096 ≡ 1
one-page first n some h = omega (arith, some, h)

apart-line : (text : List ℕ) (first n : ℕ) → IsSmall (span first n true) → InLine first n
    → list_any (nat_eq (first / 4096)) text ≡ false
    → is_stored_into (text_pages None text) (span first n true) ≡ false
apart-line text first n small l h =
    ap (λ m. list_any (λ p. list_any (nat_eq p) (text_pages None text)) (from_up (first / 4096) m))
    (one-page first n small.some l.line)
    ∙ ap (λ b. b || false) (open-page text (first / 4096) h)

fetch-passed : (text : List ℕ) (first n : ℕ) → IsSmall (span first n false) → is_in_line first n ≡ true
    → ArePassed text (span first n false ∷ [])
fetch-passed text first n small h = record {
  inside = ap (λ b. b && true) (inside-line first n false small (in-line first n h));
  apart = refl;
}

store-passed : (text : List ℕ) (first n : ℕ) → IsSmall (span first n true)
    → (is_in_line first n && not (list_any (nat_eq (first / 4096)) text)) ≡ true
    → ArePassed text (span first n true ∷ [])
store-passed text first n small h =
    let parts = and_parts (is_in_line first n) _ h in
    let l = in-line first n parts.0 in
    record {
      inside = ap (λ b. b && true) (inside-line first n true small l);
      apart = ap (λ b. b || false)
          (apart-line text first n small l (not-true (list_any (nat_eq (first / 4096)) text) parts.1));
    }

passed-in : (o : Operands) (b : Size) (i : Instr) (general : List ℕ) (code : ℕ) (text : List ℕ)
    → All IsSmall (spans_in o i general code)
    → is_open (shape_in o b i).touch (first_address i general) (shape_in o b i).size text ≡ true
    → ArePassed text (spans_in o i general code)
unfolding spans_in
passed-in Absent b i general code text small h = record { inside = refl; apart = refl }
passed-in (Fetched size) b i general code text small h =
    fetch-passed text (first_address i general) (bytes_of size) (All-head IsSmall _ [] small) h
passed-in (Stored size) b i general code text small h =
    store-passed text (first_address i general) (bytes_of size) (All-head IsSmall _ [] small) h
passed-in (FetchedMany size) b i general code text small h =
    fetch-passed text (first_address i general) (registers_between i.r1 i.r3 * bytes_of size)
    (All-head IsSmall _ [] small) h
passed-in (StoredMany size) b i general code text small h =
    store-passed text (first_address i general) (registers_between i.r1 i.r3 * bytes_of size)
    (All-head IsSmall _ [] small) h
passed-in FetchedSelected b i general code text small h = absurd (true≢false (sym h))
passed-in StoredSelected b i general code text small h = absurd (true≢false (sym h))
passed-in StoredAndFetched b i general code text small h = absurd (true≢false (sym h))
passed-in BothFetched b i general code text small h = absurd (true≢false (sym h))

-- ---- operands that are reached

-- of what may be touched the shape is known
open-known : (t : Touch) (first n : ℕ) (text : List ℕ) → is_open t first n text ≡ true → is_other t ≡ false
open-known touch.Nothing first n text h = refl
open-known touch.Fetch first n text h = refl
open-known touch.Store first n text h = refl
open-known touch.Other first n text h = sym h

open-where : (b : Bool) (s : Shape) (first : ℕ) (text : List ℕ)
    → is_open (cond b s no_shape).touch first (cond b s no_shape).size text ≡ true
    → is_open s.touch first s.size text ≡ true
open-where true s first text h = h
open-where false s first text h = absurd (true≢false (sym h))

-- so does what is tested of a begin that names no block: its operands
tested-begin : (o : Operands) (i : Instr) (general : List ℕ) (code depth : ℕ) → nat_eq i.b 0 ≡ true
    → tested_spans demand.Begin (spans_in o i general code) i general depth ≡ spans_in o i general code
tested-begin o i general code depth none =
    let ss = spans_in o i general code in
    let block = span (first_address i general) 256 true in
    ap (λ b. cond (nat_eq depth 0 && not b) (block ∷ []) ss) none
    ∙ ap (λ b. cond b (block ∷ []) ss) (and-false (nat_eq depth 0))

tested : (d : Demand) (o : Operands) (i : Instr) (general : List ℕ) (code depth : ℕ) (text : List ℕ)
    → All IsSmall (spans_in o i general code)
    → is_open (shape_by d o i).touch (first_address i general) (shape_by d o i).size text ≡ true
    → where_wrong (not (list_all (is_inside (accessible_pages None))
    (tested_spans d (spans_in o i general code) i general depth))) addressing
    (where_wrong (list_any (is_stored_into (text_pages None text))
    (tested_spans d (spans_in o i general code) i general depth)) protection
    (where_wrong (is_refused_service d i) operation None)) ≡ None
tested demand.Nothing o i general code depth text small h =
    tests-pass text (spans_in o i general code) (passed-in o Byte i general code text small h)
tested demand.Boundary o i general code depth text small h =
    tests-pass text (spans_in o i general code) (passed-in o (boundary_size o) i general code text small h)
tested demand.EvenPair o i general code depth text small h = absurd (true≢false (sym h))
tested demand.AbortCode o i general code depth text small h = absurd (true≢false (sym h))
tested demand.Begin o i general code depth text small h =
    let s = shape_by demand.Begin o i in
    let p = bare-begin i (shape_in o Byte i) (open-known s.touch (first_address i general) s.size text h) in
    let ss = spans_in o i general code in
    let in-place = open-where (is_bare_begin i) (shape_in o Byte i) (first_address i general) text h in
    ap (λ (xs : List Span). where_wrong (not (list_all (is_inside (accessible_pages None)) xs)) addressing
    (where_wrong (list_any (is_stored_into (text_pages None text)) xs) protection
    (where_wrong false operation None))) (tested-begin o i general code depth p.0)
    ∙ tests-pass text ss (passed-in o Byte i general code text small in-place)
tested demand.BeginConstrained o i general code depth text small h =
    tests-pass text (spans_in o i general code) (passed-in o Byte i general code text small
    (open-where (nat_eq i.b 0) (shape_in o Byte i) (first_address i general) text h))
tested demand.ServiceZero o i general code depth text small h = absurd (true≢false (sym h))

reached : (e : Entry) (i : Instr) (general : List ℕ) (code depth : ℕ) (text : List ℕ)
    → All IsSmall (spans_in e.operands i general code)
    → is_open (shape_by e.demand e.operands i).touch (first_address i general)
    (shape_by e.demand e.operands i).size text ≡ true
    → inaccessible_in e i general code depth (accessible_pages None) (text_pages None text) ≡ None
unfolding inaccessible_in
reached e i general code depth text small h = tested e.demand e.operands i general code depth text small h

-- ---- it goes

-- an attempt goes on by it that admits it
module _ (text bytes : List ℕ) (q : Progress) (r : Ready) (bare : q.cpu.prefix ≡ None)
    (ready : IsReady bytes text q.cpu.address r)
    (h : is_reached r.shape (first_address r.instr q.cpu.general) text ≡ true)
    (lets : Admits q r.instr (touched_by r.shape.touch (first_address r.instr q.cpu.general) r.shape.size)) where
  abbrev c : Cpu
  c = q.cpu

  abbrev row : Entry
  row = entry_at r.instr.op.number

  abbrev need : List Range
  need = touched_by r.shape.touch (first_address r.instr c.general) r.shape.size

  parts : (nat_eq (first_address r.instr c.general % bytes_of r.shape.boundary) 0 ≡ true)
      × (is_open r.shape.touch (first_address r.instr c.general) r.shape.size text ≡ true)
  parts = and_parts (nat_eq (first_address r.instr c.general % bytes_of r.shape.boundary) 0) _ h

  known : is_other r.shape.touch ≡ false
  known = open-known r.shape.touch (first_address r.instr c.general) r.shape.size text parts.1

  shaped : r.shape ≡ shape_by row.demand row.operands r.instr
  shaped = ready.shape known

  known-row : is_other (shape_by row.demand row.operands r.instr).touch ≡ false
  known-row = ap (λ (s : Shape). is_other s.touch) (sym shaped) ∙ known

  touches : need ≡ operands r.instr c
  touches =
      ap (λ (s : Shape). touched_by s.touch (first_address r.instr c.general) s.size) shaped
      ∙ ranges-by row.demand row.operands r.instr c.general c.condition known-row

  specified : unspecified r.instr c.general (length q.nest) ≡ None
  specified =
      well-specified row.demand row.operands r.instr c.general (length q.nest) known-row
      (subst (λ (s : Shape). nat_eq (first_address r.instr c.general % bytes_of s.boundary) 0 ≡ true) shaped parts.0)

  usable : inaccessible r.instr c.general c.condition (length q.nest) (accessible_pages None) (text_pages None text)
      ≡ None
  usable =
      reached row r.instr c.general c.condition (length q.nest) text
      (sizes row.operands r.instr c.general c.condition)
      (subst (λ (s : Shape). is_open s.touch (first_address r.instr c.general) s.size text ≡ true) shaped parts.1)

  pub plain-goes : fate_by_progress text (storage_of bytes) q ≡ Goes r.instr need
  plain-goes = passing-goes text bytes q r need bare ready lets (ready.fetches known) touches specified usable

-- so it does by the first address that was found
goes-at : (text bytes : List ℕ) (q : Progress) (r : Ready) (first : ℕ) → q.cpu.prefix ≡ None
    → IsReady bytes text q.cpu.address r → first ≡ first_address r.instr q.cpu.general
    → is_reached r.shape first text ≡ true → Admits q r.instr (touched_by r.shape.touch first r.shape.size)
    → fate_by_progress text (storage_of bytes) q ≡ Goes r.instr (touched_by r.shape.touch first r.shape.size)
goes-at text bytes q r first bare ready at h lets =
    subst (λ a. fate_by_progress text (storage_of bytes) q ≡ Goes r.instr (touched_by r.shape.touch a r.shape.size))
    (sym at)
    (plain-goes text bytes q r bare ready (ap (λ a. is_reached r.shape a text) (sym at) ∙ h)
    (subst (λ a. Admits q r.instr (touched_by r.shape.touch a r.shape.size)) at lets))

-- ---- where there is no operand

-- each address is on the boundary of a byte
on-byte : (a : ℕ) → (nat_eq (a % 1) 0 && true) ≡ true
on-byte a =
    let whole : a % 1 ≡ 0 = omega arith in
    ap (λ n. nat_eq n 0 && true) whole

absent-reached : (o : Operands) (i : Instr) (a : ℕ) (text : List ℕ) → is_nothing (shape_in o Byte i).touch ≡ true
    → is_reached (shape_in o Byte i) a text ≡ true
absent-reached Absent i a text h = on-byte a
absent-reached (Fetched size) i a text h = absurd (true≢false (sym h))
absent-reached (Stored size) i a text h = absurd (true≢false (sym h))
absent-reached (FetchedMany size) i a text h = absurd (true≢false (sym h))
absent-reached (StoredMany size) i a text h = absurd (true≢false (sym h))
absent-reached FetchedSelected i a text h = absurd (true≢false (sym h))
absent-reached StoredSelected i a text h = absurd (true≢false (sym h))
absent-reached StoredAndFetched i a text h = absurd (true≢false (sym h))
absent-reached BothFetched i a text h = absurd (true≢false (sym h))

bounded-reached : (o : Operands) (i : Instr) (a : ℕ) (text : List ℕ)
    → is_nothing (shape_in o (boundary_size o) i).touch ≡ true
    → is_reached (shape_in o (boundary_size o) i) a text ≡ true
bounded-reached Absent i a text h = on-byte a
bounded-reached (Fetched size) i a text h = absurd (true≢false (sym h))
bounded-reached (Stored size) i a text h = absurd (true≢false (sym h))
bounded-reached (FetchedMany size) i a text h = absurd (true≢false (sym h))
bounded-reached (StoredMany size) i a text h = absurd (true≢false (sym h))
bounded-reached FetchedSelected i a text h = absurd (true≢false (sym h))
bounded-reached StoredSelected i a text h = absurd (true≢false (sym h))
bounded-reached StoredAndFetched i a text h = absurd (true≢false (sym h))
bounded-reached BothFetched i a text h = absurd (true≢false (sym h))

where-reached : (b : Bool) (o : Operands) (i : Instr) (a : ℕ) (text : List ℕ)
    → is_nothing (cond b (shape_in o Byte i) no_shape).touch ≡ true
    → is_reached (cond b (shape_in o Byte i) no_shape) a text ≡ true
where-reached true o i a text h = absent-reached o i a text h
where-reached false o i a text h = absurd (true≢false (sym h))

-- so it is reached at each address
nothing-reached : (d : Demand) (o : Operands) (i : Instr) (a : ℕ) (text : List ℕ)
    → is_nothing (shape_by d o i).touch ≡ true → is_reached (shape_by d o i) a text ≡ true
nothing-reached demand.Nothing o i a text h = absent-reached o i a text h
nothing-reached demand.Boundary o i a text h = bounded-reached o i a text h
nothing-reached demand.EvenPair o i a text h = absurd (true≢false (sym h))
nothing-reached demand.AbortCode o i a text h = absurd (true≢false (sym h))
nothing-reached demand.Begin o i a text h = where-reached (is_bare_begin i) o i a text h
nothing-reached demand.BeginConstrained o i a text h = where-reached (nat_eq i.b 0) o i a text h
nothing-reached demand.ServiceZero o i a text h = absurd (true≢false (sym h))

known-nothing : (t : Touch) → is_nothing t ≡ true → is_other t ≡ false
known-nothing touch.Nothing h = refl
known-nothing touch.Fetch h = refl
known-nothing touch.Store h = refl
known-nothing touch.Other h = sym h

-- and goes by whatever address there is
pub goes-by : (text bytes : List ℕ) (q : Progress) (r : Ready) (first : ℕ) → q.cpu.prefix ≡ None
    → IsReady bytes text q.cpu.address r
    → (is_nothing r.shape.touch ≡ false → first ≡ first_address r.instr q.cpu.general)
    → is_reached r.shape first text ≡ true → Admits q r.instr (touched_by r.shape.touch first r.shape.size)
    → fate_by_progress text (storage_of bytes) q ≡ Goes r.instr (touched_by r.shape.touch first r.shape.size)
goes-by text bytes q r first bare ready at h lets =
    by_way (cases_Bool (is_nothing r.shape.touch))
    (λ none.
    let there : ℕ = first_address r.instr q.cpu.general in
    let e = entry_at r.instr.op.number in
    let shape : r.shape ≡ shape_by e.demand e.operands r.instr = ready.shape (known-nothing r.shape.touch none) in
    let same : touched_by r.shape.touch there r.shape.size ≡ touched_by r.shape.touch first r.shape.size =
    nothing-touched r.shape.touch there r.shape.size none ∙ sym (nothing-touched r.shape.touch first r.shape.size none)
    in
    let reached : is_reached r.shape there text ≡ true =
    ap (λ (s : Shape). is_reached s there text) shape
    ∙ nothing-reached e.demand e.operands r.instr there text
    (sym (ap (λ (s : Shape). is_nothing s.touch) shape) ∙ none) in
    goes-at text bytes q r there bare ready refl reached (subst (Admits q r.instr) (sym same) lets)
    ∙ ap (Goes r.instr) same)
    (λ some. goes-at text bytes q r first bare ready (at some) h lets)

-- ---- attempts that admit it

-- where none is live
resting-admits : (c : Cpu) (i : Instr) (ranges : List Range) → Admits (resting c) i ranges
resting-admits c i ranges = record {
  bare = λ k lt. refl;
  text = refl;
  allowed = refl;
  shallow = and-false (begins (entry_at i.op.number));
  place = refl;
  fits = refl;
}

-- no begins restrict what every transaction may have
unrestricted : (nest : List Begin) (e : Entry) → is_admitted e ≡ true → is_restricted nest e ≡ false
unrestricted [] e h = refl
unrestricted (outermost ∷ inner) e h =
    neither e.restricted (sets_access_register e) (begins e) (not (effective_a (outermost ∷ inner))) h
  where
    neither : (r s b a : Bool) → not (r || (s || b)) ≡ true → (r || (s && a)) ≡ false
    neither true s b a h = sym h
    neither false true b a h = absurd (true≢false (sym h))
    neither false false b a h = refl

-- and it is no begin
begins-none : (nest : List Begin) (e : Entry) → is_admitted e ≡ true
    → (begins e && nat_le 16 (length nest)) ≡ false
begins-none nest e h =
    ap (λ b. b && nat_le 16 (length nest)) (no-begin e.restricted (sets_access_register e) (begins e) h)
  where
    no-begin : (r s b : Bool) → not (r || (s || b)) ≡ true → b ≡ false
    no-begin true s b h = absurd (true≢false (sym h))
    no-begin false true b h = absurd (true≢false (sym h))
    no-begin false false b h = not-true b h

-- sets within the limits do not overflow
no-overflow : (nest : List Begin) (sets : Sets) → fit_of sets ≡ Ok tt → overflow_in nest sets ≡ None
no-overflow [] sets h = refl
no-overflow (outermost ∷ inner) sets h = ap overflow_of h

-- an attempt that has completed nothing is none
pub unbegun-admits : (t : Tracked) (c : Cpu) (i : Instr) (ranges : List Range) → progress t c ≡ resting c
    → Admits (progress t c) i ranges
unbegun-admits t c i ranges rests =
    subst (λ (q : Progress). Admits q i ranges) (sym rests) (resting-admits c i ranges)

-- where its tests say so, of a CPU without a prefix
pub attempt-admits : (q : Progress) (i : Instr) (need : List Range) → q.cpu.prefix ≡ None
    → ((k : ℕ) → k < 6 → q.overlay (q.cpu.address + k) ≡ None) → is_admitted (entry_at i.op.number) ≡ true
    → text_refusal_by q i ≡ None
    → constraint_refusal (λ kept. next_operand_breach kept i need) i q.constraint ≡ None
    → fit_of (touching q.footprint need) ≡ Ok tt → Admits q i need
attempt-admits q i need none bare allowed text place fits = record {
  bare = bare;
  text = text;
  allowed = unrestricted q.nest (entry_at i.op.number) allowed;
  shallow = begins-none q.nest (entry_at i.op.number) allowed;
  place = place;
  fits = no-overflow q.nest (touching q.footprint (absolute_ranges q.cpu.prefix need))
      (ap (λ (rs : List Range). fit_of (touching q.footprint rs))
      (ap (λ p. absolute_ranges p need) none ∙ ranges_stay need) ∙ fits);
}

-- ---- an instruction without an operand

no-operands : (storage text : List ℕ) (place : ℕ) (r : Ready) (c : Cpu) → IsReady storage text place r
    → is_nothing r.shape.touch ≡ true → operands r.instr c ≡ []
no-operands storage text at r c ready h =
    let row = entry_at r.instr.op.number in
    let known = known-nothing r.shape.touch h in
    let shaped = ready.shape known in
    let known-row = ap (λ (s : Shape). is_other s.touch) (sym shaped) ∙ known in
    sym (ranges-by row.demand row.operands r.instr c.general c.condition known-row)
    ∙ nothing-touched (shape_by row.demand row.operands r.instr).touch (first_address r.instr c.general)
    (shape_by row.demand row.operands r.instr).size (ap (λ (s : Shape). is_nothing s.touch) (sym shaped) ∙ h)

-- whatever comes of it, where it is the one that the CPU sees
pub goes-untouched : (text bytes : List ℕ) (q : Progress) (r : Ready) (i : Instr) (need : List Range)
    → q.cpu.prefix ≡ None → IsReady bytes text q.cpu.address r → is_nothing r.shape.touch ≡ true
    → ((k : ℕ) → k < 6 → q.overlay (q.cpu.address + k) ≡ None)
    → fate_by_progress text (storage_of bytes) q ≡ Goes i need → need ≡ []
goes-untouched text bytes q r i need none ready nothing bare goes =
    let plain : IsPlain q.overlay q.cpu.prefix q.cpu.address q.cpu.address = record {
      ends = ready.ends;
      there = λ k lt. ap (λ p. absolute_of p (q.cpu.address + k)) none;
      bare = bare;
    } in
    read-touches text (storage_of bytes) q r.instr i need
    (sym (plain_reading q bytes q.cpu.address ready.size plain) ∙ ready.read) goes
    ∙ no-operands bytes text q.cpu.address r q.cpu ready nothing
