-- What a list of words asks for: its first word is the name of a subcommand, whose simple command takes the
-- others.
use Rattle.std.specs.Prelude.{◌≤◌, ℕ, Bool, true, false, List, [], ◌∷◌, Option, Some, None, unwrap_or, codes}
use Rattle.std.specs.Prelude.{if◌then◌else◌, option_map}
use Rattle.std.specs.Str.{bytes_eq}
use Rattle.std.specs.Str.Parse.{digits_value, without_leading_plus}
use Rattle.clap.specs.Words.{App, Row, Text, fault_of, matches_of, one_of}
use Rattle.clap.specs.Kinds.{Kinds}
use Rattle.ztx_words.specs.declared.Command.{Command}
use Rattle.ztx_words.specs.declared.Command.TheVariants as command
use Rattle.ztx_words.specs.declared.reading.Plan.{Plan}
use Rattle.ztx_words.specs.Arguments.{plain_app, race_app, run_app, step_app, deck_app, number_app}

-- a simple command is handed the program's name, and then the words behind the subcommand's
abbrev pub handed : List Text → List Text
handed others = codes "ztx" ∷ others

abbrev pub is_none_of : Kinds → Bool
is_none_of [] = true
is_none_of (kind ∷ kinds) = false

-- the command takes the words: it has no kind of fault at them
abbrev pub is_taken : App → List Text → Bool
is_taken app words = is_none_of (fault_of app words)

-- the number that a text stands for: decimal digits, behind a plus or none
abbrev pub number_of : Text → ℕ
number_of text = digits_value 10 (without_leading_plus text)

-- the number of an argument among the matches, its default included
abbrev pub number_in : Text → List Row → Option ℕ
number_in id rows = option_map number_of (one_of id rows)

-- the flag is among the arguments
abbrev pub flag_in : Text → List Row → Bool
flag_in id rows = unwrap_or (option_map (λ t. bytes_eq t (codes "true")) (one_of id rows)) false

abbrev pub tick_in : List Row → ℕ
tick_in rows = unwrap_or (number_in (codes "tick") rows) 0

-- the arguments of a run by a schedule, with this default of its turns
abbrev pub plan_of : ℕ → List Row → Plan
plan_of usual rows = record {
  turns = unwrap_or (number_in (codes "turns") rows) usual;
  tick = tick_in rows;
  seed = number_in (codes "seed") rows;
}

abbrev pub nothing_of : List Row → Unit {0}
nothing_of rows = tt

abbrev pub run_of : Plan → Command
run_of plan = command.Run plan.turns plan.tick plan.seed

abbrev pub heat_of : Plan → Command
heat_of plan = command.Heat plan.turns plan.tick plan.seed

abbrev pub step_of : Plan → Command
step_of plan = command.Step plan.turns plan.tick plan.seed

abbrev pub race_of : List Row → Command
race_of rows = command.Race (unwrap_or (number_in (codes "turns") rows) 200000) (tick_in rows)

abbrev pub deck_of : List Row → Command
deck_of rows =
    command.Deck (flag_in (codes "read") rows) (unwrap_or (number_in (codes "origin") rows) 0)

abbrev pub required_number : List Row → ℕ
required_number rows = unwrap_or (number_in (codes "number") rows) 0

-- what a simple command makes of the words behind a subcommand's name, where it takes them
abbrev pub taken_as : {X : Type 0} → App → (List Row → X) → List Text → Option X
taken_as app made others =
    if is_taken app (handed others) then Some (made (matches_of app (handed others))) else None

-- the command that the words behind a name ask for, or none
abbrev pub command_by : Text → List Text → Option Command
command_by name others =
    if bytes_eq name (codes "list")
    then option_map (λ u. command.List) (taken_as plain_app nothing_of others)
    else (if bytes_eq name (codes "run")
    then option_map run_of (taken_as run_app (plan_of 200000) others)
    else (if bytes_eq name (codes "race")
    then taken_as race_app race_of others
    else (if bytes_eq name (codes "generate")
    then option_map command.Generate (taken_as number_app required_number others)
    else (if bytes_eq name (codes "summary")
    then option_map command.Summary (taken_as number_app required_number others)
    else (if bytes_eq name (codes "check")
    then option_map (λ u. command.Check) (taken_as plain_app nothing_of others)
    else (if bytes_eq name (codes "heat")
    then option_map heat_of (taken_as run_app (plan_of 200000) others)
    else (if bytes_eq name (codes "deck")
    then taken_as deck_app deck_of others
    else (if bytes_eq name (codes "step")
    then option_map step_of (taken_as step_app (plan_of 20000) others)
    else None))))))))

-- the command that the words are, or none
abbrev pub command_of : List Text → Option Command
command_of [] = None
command_of (name ∷ others) = command_by name others

-- turns up to so many, and a tick
abbrev pub AreLimits : ℕ → ℕ → ℕ → Type 0
AreLimits most turns tick = (1 ≤ turns) × (turns ≤ most) × (tick ≤ 1000000)

-- the numbers of a command stay within their ranges
abbrev pub IsInRange : Command → Type 0
IsInRange (command.Run turns tick seed) = AreLimits 200000 turns tick
IsInRange (command.Race turns tick) = AreLimits 200000 turns tick
IsInRange (command.Heat turns tick seed) = AreLimits 200000 turns tick
IsInRange (command.Step turns tick seed) = AreLimits 20000 turns tick
IsInRange (command.Deck read origin) = origin ≤ 1040384
IsInRange _ = Unit {0}
