-- Lines spelled in words.
use Rattle.std.specs.Prelude.{◌≡◌, ℕ, List, [], ◌∷◌, ◌++◌}
use Rattle.report_form.specs.declared.words.Word.{Word}
use Rattle.report_form.specs.declared.words.Word.TheVariants.{Fixed, AtMost, Digits, Event}
use Rattle.report_form.specs.Words.{IsWord}

-- a comma behind an event, else a blank
abbrev pub stop_between : Word → ℕ
stop_between (Fixed name) = 32
stop_between (AtMost limit) = 32
stop_between (Digits count) = 32
stop_between (Event last) = 44

-- the byte behind a word, before those that follow it: behind the last one the end of the line
abbrev pub stop_behind : Word → List Word → ℕ
stop_behind word [] = 10
stop_behind word (next ∷ others) = stop_between word

-- a text begins with the word and the byte that stands behind it, and goes on so
pub record Begins (word : Word) (stop : ℕ) (GoesOn : List ℕ → Type 0) (text : List ℕ) : Type 0 where
  pub front : List ℕ
  pub rest : List ℕ
  pub cut : text ≡ front ++ stop ∷ rest
  pub is_word : IsWord word front
  pub goes_on : GoesOn rest

-- a line consists of these words, with its end
unfoldable pub Spelled : List Word → List ℕ → Type 0
Spelled [] line = line ≡ []
Spelled (word ∷ others) line = Begins word (stop_behind word others) (Spelled others) line
