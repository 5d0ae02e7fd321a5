use Rattle.std.proofs.Common.{◌≡◌, subst, sym, map, string_bytes, true}
use Rattle.clap.specs.Words.{App, is_simple_and_free}
use Rattle.ztx_words.specs.Arguments.{plain_app}
use Rattle.ztx_words.specs.Parses.{IsParse}
use Rattle.ztx_words.specs.Words.{nothing_of}
use Rattle.ztx_words.proofs.Handed.{none_taken, parse_of, refused, some_taken}
use Rattle.ztx_words.proofs.Simple.{plain_ready}
use Rattle.ztx_words.proofs.reading.read_nothing.Goals as goal

pub matches_in-requires : goal.matches_in-requires
matches_in-requires c =
    subst (λ (app : App). is_simple_and_free app ≡ true) (sym c.plain_command.ensures) plain_ready.free

pub returns-in_default : goal.returns-in_default
returns-in_default c = record {
  value = none_taken plain_app (map string_bytes c.args.words.now) plain_ready.named nothing_of
      (refused c.plain_command.ensures _ c.in_default.is c.in_ok-matches_in.ensures.none);
}

-- the command takes the words
parse : (c : goal.Joined-this) → IsParse plain_app (map string_bytes c.args.words.now) c.in-Some.field-0
parse c = parse_of c.plain_command.ensures _ c.in-Some.is c.in_ok-matches_in.ensures.found

pub returns : goal.returns
returns c = record {
  value = some_taken plain_app (map string_bytes c.args.words.now) plain_ready.named nothing_of
      (parse c).taken;
}
