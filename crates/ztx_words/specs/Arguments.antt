-- The arguments of each subcommand, as rules of a simple command that has neither a help nor a version flag.
use Rattle.std.specs.Prelude.{true, [], ◌∷◌, Some, codes}
use Rattle.clap.specs.Words.{App, Rule, new_app, new_rule, with_rule}
use Rattle.clap.specs.Simple.{on_top}
use Rattle.clap.specs.declared.builder.action.ArgAction.TheVariants.{Set, SetTrue}
use Rattle.clap.specs.declared.builder.value_parser.ValueParser.TheVariants as parser

-- `--turns N`: a number from 1 to 200,000, which is the default
unfoldable pub turns_rule : Rule
turns_rule = record (new_rule (codes "turns")) {
  long = Some (codes "turns");
  action = Some Set;
  defaults = codes "200000" ∷ [];
  parser = Some (parser.Unsigned 1 200000);
}

-- the same of `step`: a number from 1 to 20,000, which is the default
unfoldable pub steps_rule : Rule
steps_rule = record (new_rule (codes "turns")) {
  long = Some (codes "turns");
  action = Some Set;
  defaults = codes "20000" ∷ [];
  parser = Some (parser.Unsigned 1 20000);
}

-- `--tick T`: a number from 0 to 1,000,000, by default 0
unfoldable pub tick_rule : Rule
tick_rule = record (new_rule (codes "tick")) {
  long = Some (codes "tick");
  action = Some Set;
  defaults = codes "0" ∷ [];
  parser = Some (parser.Unsigned 0 1000000);
}

-- `--seed K`: any number of 64 bits, or none
unfoldable pub seed_rule : Rule
seed_rule = record (new_rule (codes "seed")) {
  long = Some (codes "seed");
  action = Some Set;
  parser = Some (parser.Unsigned 0 18446744073709551615);
}

-- the one number, which has to be there: any of 64 bits
unfoldable pub number_rule : Rule
number_rule = record (new_rule (codes "number")) {
  action = Some Set;
  required = true;
  parser = Some (parser.Unsigned 0 18446744073709551615);
}

-- `--read`: a flag, with no value
unfoldable pub read_rule : Rule
read_rule = record (new_rule (codes "read")) { long = Some (codes "read"); action = Some SetTrue }

-- `--origin A`: a number from 0 to 1,040,384, by default 0
unfoldable pub origin_rule : Rule
origin_rule = record (new_rule (codes "origin")) {
  long = Some (codes "origin");
  action = Some Set;
  defaults = codes "0" ∷ [];
  parser = Some (parser.Unsigned 0 1040384);
}

-- `list` and `check`: no argument, and no flag that clap would add
unfoldable pub plain_app : App
plain_app = on_top (λ shape. record shape { disable_help_flag = true }) (new_app (codes "ztx"))

-- `race`
unfoldable pub race_app : App
race_app = with_rule (with_rule plain_app turns_rule) tick_rule

-- `run` and `heat`
unfoldable pub run_app : App
run_app = with_rule race_app seed_rule

-- `step`
unfoldable pub step_app : App
step_app = with_rule (with_rule (with_rule plain_app steps_rule) tick_rule) seed_rule

-- `deck`
unfoldable pub deck_app : App
deck_app = with_rule (with_rule plain_app read_rule) origin_rule

-- `generate` and `summary`
unfoldable pub number_app : App
number_app = with_rule plain_app number_rule
