use Rattle.std.proofs.Common.{◌∙◌, ap, refl, map, string_bytes, ℕ, Option, Some, unwrap_or, arith}
use Rattle.clap.specs.Words.{app_of}
use Rattle.ztx_words.specs.Parses.{IsParse}
use Rattle.ztx_words.specs.Words.{plan_of}
use Rattle.ztx_words.proofs.Handed.{none_taken, parse_of, refused, some_taken}
use Rattle.ztx_words.proofs.Numbers.{number_found, number_ranged}
use Rattle.ztx_words.proofs.reading.read_plan.Goals as goal

pub matches_in-requires : goal.matches_in-requires
matches_in-requires c = c.requires.ready.free

pub returns-in_default-clause-value : goal.returns-in_default-clause-value
returns-in_default-clause-value c =
    none_taken (app_of c.args.command) (map string_bytes c.args.words.now) c.requires.ready.named
    (plan_of c.args.most)
    (refused {given = app_of c.args.command} refl (map string_bytes c.args.words.now) c.in_default.is c.in_ok-matches.ensures.none)

-- the command takes the words
parse : (c : goal.Joined-matches)
    → IsParse (app_of c.args.command) (map string_bytes c.args.words.now) c.in-Some.matches
parse c =
    parse_of {given = app_of c.args.command} refl (map string_bytes c.args.words.now) c.in-Some.is c.in_ok-matches.ensures.found

pub returns-clause-value : goal.returns-clause-value
returns-clause-value c =
    let planned = c.requires in
    let turns = number_found planned.ready (parse c) planned.turns
    c.get_one.result c.get_one.ensures.none c.get_one.ensures.value in
    let tick = number_found planned.ready (parse c) planned.tick
    c.get_one-2.result c.get_one-2.ensures.none c.get_one-2.ensures.value in
    let seed = number_found planned.ready (parse c) planned.seed
    c.get_one-seed.result c.get_one-seed.ensures.none c.get_one-seed.ensures.value in
    let some_turns = c.unwrap_or-turns.ensures ∙ ap (λ (o : Option ℕ). unwrap_or o c.args.most) turns in
    let some_tick = c.unwrap_or-tick.ensures ∙ ap (λ (o : Option ℕ). unwrap_or o 0) tick in
    (λ i. Some (record { turns = some_turns i; tick = some_tick i; seed = seed i }))
    ∙ some_taken (app_of c.args.command) (map string_bytes c.args.words.now) planned.ready.named
    (plan_of c.args.most) (parse c).taken

pub returns-clause-range : goal.returns-clause-range
returns-clause-range c =
    let planned = c.requires in
    let some = planned.some in
    let turns = number_ranged planned.ready (parse c) planned.turns
    c.get_one.result c.get_one.ensures.none c.get_one.ensures.value
    c.args.most some (omega arith) in
    let tick = number_ranged planned.ready (parse c) planned.tick
    c.get_one-2.result c.get_one-2.ensures.none c.get_one-2.ensures.value
    0 (omega arith) (omega arith) in
    rw (c.unwrap_or-turns.ensures, c.unwrap_or-tick.ensures) (turns.0, turns.1, tick.1)
