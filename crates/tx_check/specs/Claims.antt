-- What is read of the lines of a CPU: its attempt and its counts, and how a line goes on behind a word.
use Rattle.std.specs.Prelude.{◌≡◌, ℕ, ◌≤◌, List, [], ◌∷◌, ◌++◌, Option, Some, None}
use Rattle.std.specs.Fmt.{decimal}
use Rattle.report_form.specs.declared.words.Name.{Name}
use Rattle.report_form.specs.declared.words.Word.{Word}
use Rattle.report_form.specs.Words.{name_text}
use Rattle.report_form.specs.Spelling.{Spelled}
use Rattle.report_text.specs.declared.processors.Attempt.{Attempt}
use Rattle.report_text.specs.declared.processors.Counts.{Counts}
use Rattle.tx_check.specs.declared.claims.Claim.{Claim}
use Rattle.tx_check.specs.declared.claims.Tally.{Tally}

-- the attempt of a claim
abbrev pub attempt_of : Claim → Attempt
attempt_of c = record { depth = c.depth; completed = c.completed }

abbrev pub claim_of : Option Claim → Option Attempt
claim_of None = None
claim_of (Some c) = Some (attempt_of c)

abbrev pub counts_of : Tally → Counts
counts_of t = record {
  turns = t.turns;
  asked = t.asked;
  rejected = t.rejected;
  commits = t.commits;
  aborts = t.aborts;
}

-- the text begins with this name and a blank, and goes on so
pub record Named (n : Name) (next : Word) (others : List Word) (text rest : List ℕ) : Type 0 where
  pub cut : text ≡ name_text n ++ 32 ∷ rest
  pub goes_on : Spelled (next ∷ others) rest

-- the text begins with this number and a blank, and goes on so
pub record Numbered (limit : ℕ) (next : Word) (others : List Word) (text : List ℕ) (number : ℕ) (rest : List ℕ)
    : Type 0 where
  pub cut : text ≡ decimal number ++ 32 ∷ rest
  pub within : number ≤ limit
  pub goes_on : Spelled (next ∷ others) rest

-- the text is this number and the end of the line
pub record Ends (limit : ℕ) (text : List ℕ) (number : ℕ) : Type 0 where
  pub cut : text ≡ decimal number ++ 10 ∷ []
  pub within : number ≤ limit

-- a name, a blank, a number and a blank, and the text goes on so
pub record IsLabelled (n : Name) (limit : ℕ) (next : Word) (others : List Word) (text : List ℕ) (number : ℕ)
    (rest : List ℕ) : Type 0 where
  pub cut : text ≡ name_text n ++ 32 ∷ (decimal number ++ 32 ∷ rest)
  pub within : number ≤ limit
  pub goes_on : Spelled (next ∷ others) rest

-- a name, a blank, a number and the end of the line
pub record IsLabelledEnd (n : Name) (limit : ℕ) (text : List ℕ) (number : ℕ) : Type 0 where
  pub cut : text ≡ name_text n ++ 32 ∷ (decimal number ++ 10 ∷ [])
  pub within : number ≤ limit
