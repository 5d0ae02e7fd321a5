use Rattle.std.proofs.Common.{◌≡◌, ◌∙◌, ap, ap₂, subst, sym, map, string_bytes, true, Bool, ℕ, Option, Some}
use Rattle.std.proofs.Common.{unwrap_or, arith, codes}
use Rattle.clap.specs.Words.{App, is_simple_and_free}
use Rattle.ztx_words.specs.declared.Command.TheVariants as command
use Rattle.ztx_words.specs.Arguments.{deck_app}
use Rattle.ztx_words.specs.Parses.{IsParse}
use Rattle.ztx_words.specs.Words.{deck_of}
use Rattle.ztx_words.proofs.Handed.{none_taken, parse_of, refused, some_taken}
use Rattle.ztx_words.proofs.Numbers.{flag_found, number_found, number_ranged}
use Rattle.ztx_words.proofs.Simple.{deck_ready, deck_origin}
use Rattle.ztx_words.proofs.reading.read_deck.Goals as goal

pub matches_in-requires : goal.matches_in-requires
matches_in-requires c =
    subst (λ (app : App). is_simple_and_free app ≡ true) (sym c.in_ok-deck_command.ensures) deck_ready.free

pub returns-in_default-clause-value : goal.returns-in_default-clause-value
returns-in_default-clause-value c =
    none_taken deck_app (map string_bytes c.args.words.now) deck_ready.named deck_of
    (refused c.in_ok-deck_command.ensures _ c.in_default.is c.in_ok-matches.ensures.none)

-- the command takes the words
parse : (c : goal.Joined-matches) → IsParse deck_app (map string_bytes c.args.words.now) c.in-Some.matches
parse c = parse_of c.in_ok-deck_command.ensures _ c.in-Some.is c.in_ok-matches.ensures.found

pub returns-clause-value : goal.returns-clause-value
returns-clause-value c =
    let read = flag_found _ (codes "read") (parse c)
    c.get_one.result c.get_one.ensures.none c.get_one.ensures.value in
    let origin = number_found deck_ready (parse c) deck_origin
    c.get_one-2.result c.get_one-2.ensures.none c.get_one-2.ensures.value in
    let arguments = ap₂ (λ (x : Bool) (y : ℕ). command.Deck x y)
    (c.unwrap_or-read.ensures ∙ read)
    (c.unwrap_or-origin.ensures ∙ ap (λ (o : Option ℕ). unwrap_or o 0) origin) in
    ap Some arguments
    ∙ some_taken deck_app (map string_bytes c.args.words.now) deck_ready.named deck_of (parse c).taken

pub returns-clause-range : goal.returns-clause-range
returns-clause-range c =
    let origin = number_ranged deck_ready (parse c) deck_origin
    c.get_one-2.result c.get_one-2.ensures.none c.get_one-2.ensures.value
    0 (omega arith) (omega arith) in
    rw c.unwrap_or-origin.ensures origin.1
