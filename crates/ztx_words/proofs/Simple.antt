-- Facts of the simple commands, which compute.
use Rattle.std.proofs.Common.{◌≡◌, true, refl, arith}
use Rattle.std.specs.Prelude.{codes}
use Rattle.clap.specs.Words.{App, is_simple, is_simple_and_free}
use Rattle.clap.specs.declared.builder.value_parser.ValueParser.TheVariants as parser
use Rattle.clap.proofs.WalkLemmas.{both}
use Rattle.ztx_words.specs.Arguments.{turns_rule, steps_rule, tick_rule, seed_rule, number_rule}
use Rattle.ztx_words.specs.Arguments.{read_rule, origin_rule}
use Rattle.ztx_words.specs.Arguments.{plain_app, race_app, run_app, step_app, deck_app, number_app}
use Rattle.ztx_words.specs.Parses.{IsPlanned, IsReady, Reads}

-- a command that is simple and free is simple
pub simple_of_free : (app : App) → is_simple_and_free app ≡ true → is_simple app ≡ true
simple_of_free app free = (both (is_simple app) _ free).0

pub plain_ready : IsReady plain_app
unfolding plain_app
plain_ready = record { named = refl; free = refl; rules = refl }

pub race_ready : IsReady race_app
unfolding race_app plain_app turns_rule tick_rule
race_ready = record { named = refl; free = refl; rules = refl }

pub number_ready : IsReady number_app
unfolding number_app plain_app number_rule
number_ready = record { named = refl; free = refl; rules = refl }

pub deck_ready : IsReady deck_app
unfolding deck_app plain_app read_rule origin_rule
deck_ready = record { named = refl; free = refl; rules = refl }

pub race_turns : Reads race_app (codes "turns") (parser.Unsigned 1 200000)
unfolding race_app plain_app turns_rule tick_rule
race_turns =
    record { readers = (λ e. refl, (λ e. cc, tt)); named = refl; help = refl; version = refl }

pub race_tick : Reads race_app (codes "tick") (parser.Unsigned 0 1000000)
unfolding race_app plain_app turns_rule tick_rule
race_tick =
    record { readers = (λ e. cc, (λ e. refl, tt)); named = refl; help = refl; version = refl }

-- `run` and `heat` run a listing, with up to 200,000 turns
pub run_planned : IsPlanned 200000 run_app
unfolding run_app race_app plain_app turns_rule tick_rule seed_rule
run_planned = record {
  ready = record { named = refl; free = refl; rules = refl };
  some = omega arith;
  turns =
      record { readers = (λ e. refl, (λ e. cc, (λ e. cc, tt))); named = refl; help = refl; version = refl };
  tick =
      record { readers = (λ e. cc, (λ e. refl, (λ e. cc, tt))); named = refl; help = refl; version = refl };
  seed =
      record { readers = (λ e. cc, (λ e. cc, (λ e. refl, tt))); named = refl; help = refl; version = refl };
}

-- `step` does so too, with up to 20,000
pub step_planned : IsPlanned 20000 step_app
unfolding step_app plain_app steps_rule tick_rule seed_rule
step_planned = record {
  ready = record { named = refl; free = refl; rules = refl };
  some = omega arith;
  turns =
      record { readers = (λ e. refl, (λ e. cc, (λ e. cc, tt))); named = refl; help = refl; version = refl };
  tick =
      record { readers = (λ e. cc, (λ e. refl, (λ e. cc, tt))); named = refl; help = refl; version = refl };
  seed =
      record { readers = (λ e. cc, (λ e. cc, (λ e. refl, tt))); named = refl; help = refl; version = refl };
}

pub deck_origin : Reads deck_app (codes "origin") (parser.Unsigned 0 1040384)
unfolding deck_app plain_app read_rule origin_rule
deck_origin =
    record { readers = (λ e. cc, (λ e. refl, tt)); named = refl; help = refl; version = refl }

pub number_reads : Reads number_app (codes "number") (parser.Unsigned 0 18446744073709551615)
unfolding number_app plain_app number_rule
number_reads =
    record { readers = (λ e. refl, tt); named = refl; help = refl; version = refl }
