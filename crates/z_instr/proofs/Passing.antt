-- A test that is computed over a list holds at each of its elements.
use Rattle.std.proofs.Common.{◌≡◌, ℕ, ◌<◌, zero, suc, true, false, Bool, ◌&&◌, refl, List, [], ◌∷◌, length, get_or, arith}
use Rattle.std.specs.List.{list_all}

pub and_left : (a b : Bool) → (a && b) ≡ true → a ≡ true
and_left true b h = refl
and_left false b h = cc

pub and_right : (a b : Bool) → (a && b) ≡ true → b ≡ true
and_right true b h = h
and_right false b h = cc

pub passes : {X : Type 0} (test : X → Bool) (xs : List X) (n : ℕ) (d : X) → list_all test xs ≡ true →
    n < length xs → test (get_or xs n d) ≡ true
passes test [] n d h l = absurd (omega arith)
passes test (x ∷ xs) zero d h l = and_left (test x) (list_all test xs) h
passes test (x ∷ xs) (suc n) d h l =
    passes test xs n d (and_right (test x) (list_all test xs) h) (omega arith)
