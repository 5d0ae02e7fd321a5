-- What is asked of the bytes of an input, and what is due then.
use Rattle.std.specs.Prelude.{ℕ, ◌≤◌, List}
use Rattle.ztx_answers.specs.declared.requests.Request.{Request}
use Rattle.ztx_answers.specs.declared.requests.Request.TheVariants as request
use Rattle.run_answers.specs.Checks.{IsDueToCheck}
use Rattle.listing_answers.specs.Decks.{IsDueToDeck, IsDueToReadDeck}
use Rattle.listing_answers.specs.Due.{IsDueToList}
use Rattle.run_answers.specs.Reports.{IsDueToRun}
use Rattle.ztx_answers.specs.Heats.{IsDueToHeat}
use Rattle.run_answers.specs.Runs.{AreLimits}
use Rattle.ztx_answers.specs.Steps.{IsDueToStep}

-- how many bytes an input may have
abbrev pub most_of : Request → ℕ
most_of request.List = 16777216
most_of (request.Run turns tick seed) = 16777216
most_of request.Deck = 16777216
most_of (request.ReadDeck origin) = 16777216
most_of (request.Step turns tick seed) = 16777216
most_of (request.Heat turns tick seed) = 16777216
most_of request.Check = 134217728

-- the numbers of the request are in their ranges
abbrev pub IsAllowed : Request → Type 0
IsAllowed request.List = Unit {0}
IsAllowed (request.Run turns tick seed) = AreLimits turns tick
IsAllowed request.Deck = Unit {0}
IsAllowed (request.ReadDeck origin) = origin ≤ 1040384
IsAllowed (request.Step turns tick seed) = AreLimits turns tick
IsAllowed (request.Heat turns tick seed) = AreLimits turns tick
IsAllowed request.Check = Unit {0}

-- what is due to the request and an input: a status with a text
abbrev pub IsDue : Request → List ℕ → ℕ → List ℕ → Type 0
IsDue request.List input = IsDueToList input
IsDue (request.Run turns tick seed) input = IsDueToRun turns tick seed input
IsDue request.Deck input = IsDueToDeck input
IsDue (request.ReadDeck origin) input = IsDueToReadDeck origin input
IsDue (request.Step turns tick seed) input = IsDueToStep turns tick seed input
IsDue (request.Heat turns tick seed) input = IsDueToHeat turns tick seed input
IsDue request.Check input = IsDueToCheck input
