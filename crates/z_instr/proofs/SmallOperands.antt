-- How many operands in storage an instruction has, and how long they are.
use Rattle.std.proofs.Common.{ℕ, ◌<◌, ◌≤◌, ◌*◌, Bool, true, false, cond, List, [], ◌∷◌, length, arith, lit<, lit≤}
use Rattle.std.specs.Prelude.{All}
use Rattle.std.proofs.lemmas.List.Elements.{All-cons, All-nil}
use Rattle.z_instr.specs.declared.instr.Instr.{Instr}
use Rattle.z_instr.specs.declared.operand.Size.{Size}
use Rattle.z_instr.specs.declared.operand.Size.TheVariants.{Byte, Halfword, Word, Doubleword}
use Rattle.z_instr.specs.declared.operand.Operands.{Operands}
use Rattle.z_instr.specs.declared.operand.Operands.TheVariants.{Absent, Fetched, Stored, FetchedMany, StoredMany, FetchedSelected, StoredSelected, StoredAndFetched, BothFetched}
use Rattle.z_instr.specs.Operands.{Span, span, IsSmall, spans_in, bytes_of, registers_between, length_of, selects}
use Rattle.z_instr.proofs.OneSpelling.{modulo_below}

small : (first n : ℕ) (store : Bool) → 0 < n → n ≤ 256 → IsSmall (span first n store)
small first n store h k = record { some = h; most = k }

one : (s : Span) → IsSmall s → All IsSmall (s ∷ [])
one s h = All-cons IsSmall s [] h (All-nil IsSmall)

two : (s t : Span) → IsSmall s → IsSmall t → All IsSmall (s ∷ t ∷ [])
two s t h k = All-cons IsSmall s (t ∷ []) h (one t k)

item : (size : Size) → (0 < bytes_of size) × (bytes_of size ≤ 8)
item Byte = (lit< tt, lit≤ tt)
item Halfword = (lit< tt, lit≤ tt)
item Word = (lit< tt, lit≤ tt)
item Doubleword = (lit< tt, lit≤ tt)

many : (size : Size) (r1 r3 : ℕ) →
    (0 < registers_between r1 r3 * bytes_of size) × (registers_between r1 r3 * bytes_of size ≤ 256)
many Byte r1 r3 = (omega arith, omega arith)
many Halfword r1 r3 = (omega arith, omega arith)
many Word r1 r3 = (omega arith, omega arith)
many Doubleword r1 r3 = (omega arith, omega arith)

coded : (i : Instr) → (0 < length_of i) × (length_of i ≤ 256)
coded i =
    let m = modulo_below 8 i.imm (omega arith) in
    (omega arith, omega arith)

selected : (b : Bool) (s : Span) → IsSmall s → All IsSmall (cond b (s ∷ []) [])
selected true s h = one s h
selected false s h = All-nil IsSmall

few : (b : Bool) (s : Span) → length (cond b (s ∷ []) []) ≤ 2
few true s = lit≤ tt
few false s = lit≤ tt

pub count : (o : Operands) (i : Instr) (general : List ℕ) (code : ℕ) → length (spans_in o i general code) ≤ 2
unfolding spans_in
count Absent i general code = lit≤ tt
count (Fetched size) i general code = lit≤ tt
count (Stored size) i general code = lit≤ tt
count (FetchedMany size) i general code = lit≤ tt
count (StoredMany size) i general code = lit≤ tt
count FetchedSelected i general code = few (selects i.mask code) _
count StoredSelected i general code = few (selects i.mask code) _
count StoredAndFetched i general code = lit≤ tt
count BothFetched i general code = lit≤ tt

pub sizes : (o : Operands) (i : Instr) (general : List ℕ) (code : ℕ) → All IsSmall (spans_in o i general code)
unfolding spans_in
sizes Absent i general code = All-nil IsSmall
sizes (Fetched size) i general code = let m = item size in one _ (small _ _ _ m.0 (omega arith))
sizes (Stored size) i general code = let m = item size in one _ (small _ _ _ m.0 (omega arith))
sizes (FetchedMany size) i general code = let m = many size i.r1 i.r3 in one _ (small _ _ _ m.0 m.1)
sizes (StoredMany size) i general code = let m = many size i.r1 i.r3 in one _ (small _ _ _ m.0 m.1)
sizes FetchedSelected i general code = selected (selects i.mask code) _ (small _ _ _ (lit< tt) (lit≤ tt))
sizes StoredSelected i general code = selected (selects i.mask code) _ (small _ _ _ (lit< tt) (lit≤ tt))
sizes StoredAndFetched i general code = let m = coded i in two _ _ (small _ _ _ m.0 m.1) (small _ _ _ m.0 m.1)
sizes BothFetched i general code = let m = coded i in two _ _ (small _ _ _ m.0 m.1) (small _ _ _ m.0 m.1)
