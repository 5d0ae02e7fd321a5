-- A parse that succeeds, as the reader of one subcommand uses it, and what is known of the simple command.
use Rattle.std.specs.Prelude.{◌≡◌, ◌≤◌, ℕ, true, false, List, [], ◌∷◌, Some, codes}
use Rattle.std.specs.Str.{bytes_eq}
use Rattle.clap.specs.Words.{App, IsParsedFrom, Rule, Text, app_of, found_of, is_simple_and_free, matches_of}
use Rattle.clap.specs.Words.{rows_of}
use Rattle.clap.specs.Simple.{has_simple_rules}
use Rattle.clap.specs.declared.builder.command.Command.{Command}
use Rattle.clap.specs.declared.builder.value_parser.ValueParser.{ValueParser}
use Rattle.clap.specs.declared.builder.value_parser.ValueParser.TheVariants as parser
use Rattle.clap.specs.declared.parser.matches.ArgMatches.{ArgMatches}
use Rattle.ztx_words.specs.Words.{is_taken}

-- the command takes the words, and these are its matches
pub record IsParse (app : App) (words : List Text) (matches : ArgMatches) : Type 0 where
  pub taken : is_taken app words ≡ true
  pub rows : rows_of (found_of matches) ≡ matches_of app words
  pub command : Command
  pub is : app_of command ≡ app
  pub parsed : IsParsedFrom command matches

-- the first word is the program's name, and the matches and faults are those of the definitions
pub record IsReady (app : App) : Type 0 where
  pub named : app.top.no_binary_name ≡ false
  pub free : is_simple_and_free app ≡ true
  pub rules : has_simple_rules app.top ≡ true

-- each rule with the id has this parser
abbrev pub EachHas : Text → ValueParser → List Rule → Type 0
EachHas id reader [] = Unit {0}
EachHas id reader (rule ∷ rules) =
    (bytes_eq rule.id id ≡ true → rule.parser ≡ Some reader) × EachHas id reader rules

-- the id is of an argument that reads numbers in the range, and of no argument of clap's own
pub record Reads (app : App) (id : Text) (reader : ValueParser) : Type 0 where
  pub readers : EachHas id reader app.top.rules
  pub named : bytes_eq [] id ≡ false
  pub help : bytes_eq (codes "help") id ≡ false
  pub version : bytes_eq (codes "version") id ≡ false

-- the command runs a listing by a schedule, with so many turns at most
pub record IsPlanned (most : ℕ) (app : App) : Type 0 where
  pub ready : IsReady app
  pub some : 1 ≤ most
  pub turns : Reads app (codes "turns") (parser.Unsigned 1 most)
  pub tick : Reads app (codes "tick") (parser.Unsigned 0 1000000)
  pub seed : Reads app (codes "seed") (parser.Unsigned 0 18446744073709551615)
