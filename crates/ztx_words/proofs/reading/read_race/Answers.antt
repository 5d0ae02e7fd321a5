use Rattle.std.proofs.Common.{◌≡◌, ◌∙◌, ap, ap₂, subst, sym, map, string_bytes, true, ℕ, Option, Some}
use Rattle.std.proofs.Common.{unwrap_or, arith}
use Rattle.clap.specs.Words.{App, is_simple_and_free}
use Rattle.ztx_words.specs.declared.Command.TheVariants as command
use Rattle.ztx_words.specs.Arguments.{race_app}
use Rattle.ztx_words.specs.Parses.{IsParse}
use Rattle.ztx_words.specs.Words.{race_of}
use Rattle.ztx_words.proofs.Handed.{none_taken, parse_of, refused, some_taken}
use Rattle.ztx_words.proofs.Numbers.{number_found, number_ranged}
use Rattle.ztx_words.proofs.Simple.{race_ready, race_turns, race_tick}
use Rattle.ztx_words.proofs.reading.read_race.Goals as goal

pub matches_in-requires : goal.matches_in-requires
matches_in-requires c =
    subst (λ (app : App). is_simple_and_free app ≡ true) (sym c.in_ok-race_command.ensures) race_ready.free

pub returns-in_default-clause-value : goal.returns-in_default-clause-value
returns-in_default-clause-value c =
    none_taken race_app (map string_bytes c.args.words.now) race_ready.named race_of
    (refused c.in_ok-race_command.ensures _ c.in_default.is c.in_ok-matches.ensures.none)

-- the command takes the words
parse : (c : goal.Joined-matches) → IsParse race_app (map string_bytes c.args.words.now) c.in-Some.matches
parse c = parse_of c.in_ok-race_command.ensures _ c.in-Some.is c.in_ok-matches.ensures.found

pub returns-clause-value : goal.returns-clause-value
returns-clause-value c =
    let turns = number_found race_ready (parse c) race_turns
    c.get_one.result c.get_one.ensures.none c.get_one.ensures.value in
    let tick = number_found race_ready (parse c) race_tick
    c.get_one-2.result c.get_one-2.ensures.none c.get_one-2.ensures.value in
    let limits = ap₂ (λ (x y : ℕ). command.Race x y)
    (c.unwrap_or-turns.ensures ∙ ap (λ (o : Option ℕ). unwrap_or o 200000) turns)
    (c.unwrap_or-tick.ensures ∙ ap (λ (o : Option ℕ). unwrap_or o 0) tick) in
    ap Some limits
    ∙ some_taken race_app (map string_bytes c.args.words.now) race_ready.named race_of (parse c).taken

pub returns-clause-range : goal.returns-clause-range
returns-clause-range c =
    let turns = number_ranged race_ready (parse c) race_turns
    c.get_one.result c.get_one.ensures.none c.get_one.ensures.value
    200000 (omega arith) (omega arith) in
    let tick = number_ranged race_ready (parse c) race_tick
    c.get_one-2.result c.get_one-2.ensures.none c.get_one-2.ensures.value
    0 (omega arith) (omega arith) in
    rw (c.unwrap_or-turns.ensures, c.unwrap_or-tick.ensures) (turns.0, turns.1, tick.1)
