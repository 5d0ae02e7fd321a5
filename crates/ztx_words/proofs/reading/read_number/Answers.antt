use Rattle.std.proofs.Common.{◌≡◌, ◌∙◌, ap, subst, sym, map, string_bytes, true, ℕ, Option, Some}
use Rattle.std.proofs.Common.{unwrap_or}
use Rattle.clap.specs.Words.{App, is_simple_and_free}
use Rattle.ztx_words.specs.Arguments.{number_app}
use Rattle.ztx_words.specs.Parses.{IsParse}
use Rattle.ztx_words.specs.Words.{required_number}
use Rattle.ztx_words.proofs.Handed.{none_taken, parse_of, refused, some_taken}
use Rattle.ztx_words.proofs.Numbers.{number_found}
use Rattle.ztx_words.proofs.Simple.{number_ready, number_reads}
use Rattle.ztx_words.proofs.reading.read_number.Goals as goal

pub matches_in-requires : goal.matches_in-requires
matches_in-requires c =
    subst (λ (app : App). is_simple_and_free app ≡ true) (sym c.in_ok-number_command.ensures)
    number_ready.free

pub returns-in_default : goal.returns-in_default
returns-in_default c = record {
  value = none_taken number_app (map string_bytes c.args.words.now) number_ready.named required_number
      (refused c.in_ok-number_command.ensures _ c.in_default.is c.in_ok-matches.ensures.none);
}

-- the command takes the words
parse : (c : goal.Joined-matches) → IsParse number_app (map string_bytes c.args.words.now) c.in-Some.matches
parse c = parse_of c.in_ok-number_command.ensures _ c.in-Some.is c.in_ok-matches.ensures.found

pub returns : goal.returns
returns c = record {
  value =
      let number = number_found number_ready (parse c) number_reads
      c.get_one.result c.get_one.ensures.none c.get_one.ensures.value in
      ap Some (c.unwrap_or.ensures ∙ ap (λ (o : Option ℕ). unwrap_or o 0) number)
      ∙ some_taken number_app (map string_bytes c.args.words.now) number_ready.named required_number
      (parse c).taken;
}
