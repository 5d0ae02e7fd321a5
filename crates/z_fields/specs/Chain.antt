-- Tests one after the other: the first that fails is the answer.
use Rattle.std.specs.Prelude.{Result, Ok, Err}
use Rattle.z_fields.specs.declared.fault.Kind.{Kind}

infixl 10 ◌>>=◌
abbrev pub ◌>>=◌ : {A B : Type 0} → Result A Kind → (A → Result B Kind) → Result B Kind
(Ok x) >>= f = f x
(Err k) >>= f = Err k
