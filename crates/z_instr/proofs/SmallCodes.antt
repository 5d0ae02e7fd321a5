-- The codes of exceptions that an instruction's tests find are small.
use Rattle.std.proofs.Common.{ℕ, ◌<◌, ◌%◌, Bool, true, false, List, [], ◌∷◌, Option, Some, None, lit<}
use Rattle.std.specs.Prelude.{not, map, nat_eq}
use Rattle.std.specs.List.{list_any, list_all}
use Rattle.z_instr.specs.declared.instr.Instr.{Instr}
use Rattle.z_instr.specs.declared.operand.Operands.{Operands}
use Rattle.z_instr.specs.declared.operand.Demand.{Demand}
use Rattle.z_instr.specs.declared.operand.Demand.TheVariants.{Nothing, EvenPair, Boundary, AbortCode, Begin}
use Rattle.z_instr.specs.declared.operand.Demand.TheVariants.{BeginConstrained, ServiceZero}
use Rattle.z_instr.specs.Table.{Entry}
use Rattle.z_instr.specs.Operands.{where_wrong, unspecified_in, inaccessible_in, from_up}
use Rattle.z_instr.specs.Operands.{specification, special_operation, addressing, protection, operation}
use Rattle.z_instr.specs.Operands.{tested_spans, spans_in, is_inside, is_stored_into, is_refused_service}
use Rattle.z_instr.specs.Access.{unfetched, byte_unfetched, first_some, lies_in}

-- a code, where there is one, is small
abbrev pub SmallCode : Option ℕ → Type 0
SmallCode None = Unit {0}
SmallCode (Some code) = code < 256

-- one that a test adds in front of others
wrong_code : (b : Bool) (code : ℕ) (rest : Option ℕ) → code < 256 → SmallCode rest
    → SmallCode (where_wrong b code rest)
wrong_code true code rest h k = h
wrong_code false code rest h k = k

-- the code of operands that are not as specified
pub unspecified_code : (d : Demand) (o : Operands) (i : Instr) (general : List ℕ) (depth : ℕ)
    → SmallCode (unspecified_in d o i general depth)
unfolding unspecified_in
unspecified_code Nothing o i general depth = tt
unspecified_code EvenPair o i general depth = wrong_code _ specification None (lit< tt) tt
unspecified_code Boundary o i general depth = wrong_code _ specification None (lit< tt) tt
unspecified_code AbortCode o i general depth =
    wrong_code (nat_eq depth 0) special_operation _ (lit< tt) (wrong_code _ specification None (lit< tt) tt)
unspecified_code Begin o i general depth = wrong_code _ specification None (lit< tt) tt
unspecified_code BeginConstrained o i general depth = wrong_code _ specification None (lit< tt) tt
unspecified_code ServiceZero o i general depth = tt

-- the code of operands that the CPU may not reach
pub inaccessible_code : (e : Entry) (i : Instr) (general : List ℕ) (code depth : ℕ) (accessible text : List ℕ)
    → SmallCode (inaccessible_in e i general code depth accessible text)
unfolding inaccessible_in
inaccessible_code e i general code depth accessible text =
    let tested = tested_spans e.demand (spans_in e.operands i general code) i general depth in
    wrong_code (not (list_all (is_inside accessible) tested)) addressing _ (lit< tt)
    (wrong_code (list_any (is_stored_into text) tested) protection _ (lit< tt)
    (wrong_code (is_refused_service e.demand i) operation None (lit< tt) tt))

-- the first code of several
first_code : (o : Option ℕ) (rest : List (Option ℕ)) → SmallCode o → SmallCode (first_some rest)
    → SmallCode (first_some (o ∷ rest))
first_code None rest h k = k
first_code (Some code) rest h k = h

-- the code of bytes that cannot be fetched
bytes_code : (accessible text addresses : List ℕ)
    → SmallCode (first_some (map (byte_unfetched accessible text) addresses))
bytes_code accessible text [] = tt
bytes_code accessible text (a ∷ rest) =
    first_code (byte_unfetched accessible text a) (map (byte_unfetched accessible text) rest)
    (wrong_code (not (lies_in accessible a)) addressing _ (lit< tt)
    (wrong_code (not (lies_in text a)) protection None (lit< tt) tt))
    (bytes_code accessible text rest)

-- the code of an instruction that cannot be fetched
pub fetch_code : (accessible text : List ℕ) (a n : ℕ) → SmallCode (unfetched accessible text a n)
unfolding unfetched
fetch_code accessible text a n =
    wrong_code (nat_eq (a % 2) 1) specification _ (lit< tt) (bytes_code accessible text (from_up a n))
