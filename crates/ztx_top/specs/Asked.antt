-- What the words of a command line ask for, and what is due then.
use Rattle.std.specs.Prelude.{◌≡◌, ℕ, Bool, true, false, List, Option, Some, None, codes}
use Rattle.clap.specs.Words.{Text}
use Rattle.listing_answers.specs.Due.{IsGenerated}
use Rattle.ztx_answers.specs.Reports.{IsSummary}
use Rattle.ztx_answers.specs.Races.{IsDueToRace}
use Rattle.ztx_answers.specs.Requests.{IsAllowed, IsDue}
use Rattle.ztx_answers.specs.Runs.{AreLimits}
use Rattle.ztx_answers.specs.declared.requests.Request.TheVariants as request
use Rattle.ztx_words.specs.Words.{command_of}
use Rattle.ztx_words.specs.declared.Command.{Command}
use Rattle.ztx_words.specs.declared.Command.TheVariants as command
use Rattle.ztx_top.specs.declared.errand.Errand.{Errand}
use Rattle.ztx_top.specs.declared.errand.Errand.TheVariants as errand

-- what a command asks for
abbrev pub errand_of : Option Command → Errand
errand_of None = errand.Nothing
errand_of (Some command.List) = errand.Input request.List
errand_of (Some (command.Run turns tick seed)) = errand.Input (request.Run turns tick seed)
errand_of (Some (command.Race turns tick)) = errand.Race turns tick
errand_of (Some (command.Generate number)) = errand.Generate number
errand_of (Some (command.Summary number)) = errand.Summary number
errand_of (Some command.Check) = errand.Input request.Check
errand_of (Some (command.Heat turns tick seed)) = errand.Input (request.Heat turns tick seed)
errand_of (Some (command.Deck true origin)) = errand.Input (request.ReadDeck origin)
errand_of (Some (command.Deck false origin)) = errand.Input request.Deck
errand_of (Some (command.Step turns tick seed)) = errand.Input (request.Step turns tick seed)

-- what the words ask for
abbrev pub asked : List Text → Errand
asked words = errand_of (command_of words)

-- the source is read
abbrev pub reads : Errand → Bool
reads (errand.Input asked) = true
reads (errand.Race turns tick) = true
reads _ = false

-- the words and the input alone say what is due; of a race they say what each report is like that may be due
abbrev pub is_settled : Errand → Bool
is_settled (errand.Race turns tick) = false
is_settled _ = true

-- a request or a race has its numbers in their ranges
abbrev pub IsReady : Errand → Type 0
IsReady (errand.Input asked) = IsAllowed asked
IsReady (errand.Race turns tick) = AreLimits turns tick
IsReady _ = Unit {0}

abbrev pub bad_words : List ℕ
bad_words = codes "ztx: bad words\n"

-- the words ask for nothing: 4, and the line that says so
pub record IsBadWords (status : ℕ) (text : List ℕ) : Type 0 where
  pub status_is : status ≡ 4
  pub text_is : text ≡ bad_words

-- what is due, by what the words ask for and by the input
abbrev pub due : Errand → List ℕ → ℕ → List ℕ → Type 0
due (errand.Input asked) input = IsDue asked input
due (errand.Race turns tick) input = IsDueToRace turns tick input
due (errand.Generate number) input = IsGenerated number
due (errand.Summary number) input = IsSummary number
due errand.Nothing input = IsBadWords
