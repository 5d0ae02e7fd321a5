-- The copies of storage on which a run works: between entries, and as a CPU sees them.
use Rattle.std.specs.Prelude.{◌≡◌, ℕ, IsTrue, List, Option}
use Rattle.z_regs.specs.Prefix.{is_prefix}
use Rattle.z_regs.specs.Seen.{seen_by}
use Rattle.tx_private.specs.declared.attempt.Attempt.{Attempt}

-- between entries both copies are storage as some CPU sees it
pub record IsReady (bytes : List ℕ) (a : Attempt) : Type 0 where
  pub prefix_in : IsTrue (is_prefix a.turned)
  pub seen : a.seen ≡ seen_by a.turned bytes
  pub lasting : a.lasting ≡ seen_by a.turned bytes

-- and before the first instruction they are storage as a CPU with this prefix sees it
pub record IsTurned (prefix : Option ℕ) (bytes : List ℕ) (a : Attempt) : Type 0 where
  pub turned : a.turned ≡ prefix
  pub seen : a.seen ≡ seen_by prefix bytes
  pub lasting : a.lasting ≡ seen_by prefix bytes
