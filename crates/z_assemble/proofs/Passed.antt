-- What a test that was passed says.
use Rattle.std.proofs.Common.{◌≡◌, Bool, true, false, IsTrue, Result, Ok, Err, refl}
use Rattle.std.specs.Prelude.{if◌then◌else◌}
use Rattle.z_fields.specs.Chain.{◌>>=◌}
use Rattle.z_fields.specs.declared.fault.Kind.{Kind}

pub then_ok : {A B : Type 0} (o : Result A Kind) (f : A → Result B Kind) (b : B) → (o >>= f) ≡ Ok b →
    (a : A) × (o ≡ Ok a) × (f a ≡ Ok b)
then_ok (Ok a) f b e = (a, refl, e)
then_ok (Err k) f b e = absurd (cc)

pub where_ok : {A : Type 0} (t : Bool) (x b : A) (k : Kind) → (if t then Ok x else Err k) ≡ Ok b →
    (t ≡ true) × (x ≡ b)
where_ok true x b k e = (refl, cc)
where_ok false x b k e = absurd (cc)

-- a test that refuses
pub unless_ok : {A : Type 0} (t : Bool) (o : Result A Kind) (b : A) (k : Kind) →
    (if t then Err k else o) ≡ Ok b → (t ≡ false) × (o ≡ Ok b)
unless_ok true o b k e = absurd (cc)
unless_ok false o b k e = (refl, e)

abbrev AreSame : {A : Type 0} → Result A Kind → Result A Kind → Type 0
AreSame some other = some ≡ other

pub same_ok : {A : Type 0} (a b : A) → AreSame (Ok a) (Ok b) → a ≡ b
same_ok a b e = cc

pub is_true : (b : Bool) → b ≡ true → IsTrue b
is_true b e = e
