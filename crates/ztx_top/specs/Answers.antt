-- What the top call answers, and what it has written.
use Rattle.std.specs.Prelude.{◌≡◌, ◌≢◌, ℕ, ◌<◌, ◌⊎◌, List, length, Option, Some, None}
use Rattle.std.specs.Io.KnownBytes.{Appends, Keeps}
use Rattle.ztx_io.specs.Writes.{AppendsPrefix}

-- the source has these bytes left, so far as it tells
abbrev pub IsInput : Option (List ℕ) → List ℕ → Type 0
IsInput None input = Unit {0}
IsInput (Some left) input = left ≡ input

-- the source may have an input of more bytes than these left
pub record IsLong (most : ℕ) (left : Option (List ℕ)) : Type 0 where
  pub input : List ℕ
  pub is_input : IsInput left input
  pub long : most < length input

-- what is due to each input: a status with a text
abbrev pub Due : Type 1
Due = List ℕ → ℕ → List ℕ → Type 0

-- the whole text was written that is due with this status
pub record Wrote (due : Due) (left : Option (List ℕ)) (status : ℕ) (held after : Option (List ℕ)) :
    Type 0 where
  pub input : List ℕ
  pub is_input : IsInput left input
  pub text : List ℕ
  pub is_due : due input status text
  pub written : Appends held after text

-- a beginning of what is due was written, perhaps nothing
pub record WroteSome (due : Due) (left held after : Option (List ℕ)) : Type 0 where
  pub input : List ℕ
  pub is_input : IsInput left input
  pub status : ℕ
  pub text : List ℕ
  pub is_due : due input status text
  pub written : AppendsPrefix held after text

-- nothing was written, or a beginning of what is due
abbrev pub WasCut : Due → Option (List ℕ) → Option (List ℕ) → Option (List ℕ) → Type 0
WasCut due left held after = Keeps held after ⊎ WroteSome due left held after

-- neither want of memory nor a fault of the source or of the sink
abbrev pub IsWhole : ℕ → Type 0
IsWhole status = (status ≢ 1) × (status ≢ 2) × (status ≢ 3)

-- what was asked is done, or told to be unfinished or refused: the input was read to its end
abbrev pub IsDone : ℕ → Type 0
IsDone status = (status ≡ 0) ⊎ ((status ≡ 6) ⊎ (status ≡ 7))

-- the text was written whole, and the answer is its status; or memory was short: the answer is 1, and a
-- beginning of the text was written, perhaps nothing
abbrev pub Tells : ℕ → ℕ → List ℕ → Option (List ℕ) → Option (List ℕ) → Type 0
Tells answer status text held after =
    ((answer ≡ status) × Appends held after text) ⊎ ((answer ≡ 1) × AppendsPrefix held after text)
