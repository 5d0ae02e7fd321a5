-- Where the answer to a fetch is that it may be, nothing refuses it.
use Rattle.std.proofs.Common.{◌≡◌, ℕ, Option, Some, None, refl}
use Rattle.std.specs.Prelude.{Ok}
use Rattle.z_touch.specs.Refusals.{fetch_answer}

pub fetched-none : (o : Option ℕ) (u : Unit {0}) → Ok u ≡ fetch_answer o → o ≡ None
fetched-none None u h = refl
fetched-none (Some code) u h = absurd (cc)
