-- The classes of exceptions, and which classes are filtered.
use Rattle.std.specs.Prelude.{ℕ, Bool, false, cond, nat_eq, ◌||◌, List, [], ◌∷◌}

-- an exception's interruption code, its class, and its class where it comes at the fetch of an instruction
pub record Kind : Type 0 where
  pub code : ℕ
  pub class : ℕ
  pub class_at_fetch : ℕ

abbrev pub kind : ℕ → ℕ → ℕ → Kind
kind code class at_fetch = record { code = code; class = class; class_at_fetch = at_fetch }

-- operation, protection, addressing, specification, fixed-point overflow, fixed-point divide, special
-- operation, transaction constraint
abbrev pub kinds : List Kind
kinds =
    kind 0x0001 1 1 ∷ kind 0x0004 2 1 ∷ kind 0x0005 2 1 ∷ kind 0x0006 2 1
    ∷ kind 0x0008 3 3 ∷ kind 0x0009 3 3 ∷ kind 0x0013 2 2 ∷ kind 0x0018 1 1 ∷ []

-- the class by the list; a code that no exception has counts as class 1, which is never filtered
abbrev pub class_in : List Kind → ℕ → Bool → ℕ
class_in [] code fetch = 1
class_in (k ∷ ks) code fetch =
    cond (nat_eq code k.code) (cond fetch k.class_at_fetch k.class) (class_in ks code fetch)

abbrev pub class : ℕ → Bool → ℕ
class code fetch = class_in kinds code fetch

-- control 1 filters class 3, control 2 filters classes 2 and 3, and no other filters any
abbrev pub filters : ℕ → ℕ → Bool
filters pifc class =
    cond (nat_eq pifc 1) (nat_eq class 3) (cond (nat_eq pifc 2) (nat_eq class 2 || nat_eq class 3) false)
