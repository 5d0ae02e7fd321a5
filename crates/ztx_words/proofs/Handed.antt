-- A simple command is handed the words as they came, and does not look at the first.
use Rattle.std.proofs.Common.{◌≡◌, ◌∙◌, ap, true, false, List, drop, Option, Some, None, refl, subst, sym}
use Rattle.std.specs.Prelude.{IfNone, IfSome}
use Rattle.clap.specs.Words.{App, Row, Text, matches_of}
use Rattle.clap.specs.Faults.{built_fault}
use Rattle.clap.specs.Walk.{nothing_held, rows_after}
use Rattle.clap.specs.Simple.{argument_words, built, names_of}
use Rattle.clap.specs.declared.parser.matches.ArgMatches.{ArgMatches}
use Rattle.ztx_words.specs.Parses.{IsParse}
use Rattle.ztx_words.specs.Words.{handed, is_none_of, is_taken, taken_as}

module _ (app : App) (words : List Text) (named : app.top.no_binary_name ≡ false) where
  same_words : argument_words app words ≡ argument_words app (handed (drop 1 words))
  same_words = rw named refl

  same_taken : is_taken app words ≡ is_taken app (handed (drop 1 words))
  same_taken = ap (λ (ws : List Text). is_none_of (built_fault (built app) nothing_held ws)) same_words

  same_matches : matches_of app words ≡ matches_of app (handed (drop 1 words))
  same_matches =
      ap (λ (ws : List Text). rows_after (built app).top.rules (names_of (built app)) ws) same_words

  pub none_taken : {X : Type 0} (made : List Row → X) → is_taken app words ≡ false
      → None ≡ taken_as app made (drop 1 words)
  none_taken made refused = rw (sym same_taken ∙ refused) refl

  pub some_taken : {X : Type 0} (made : List Row → X) → is_taken app words ≡ true
      → Some (made (matches_of app words)) ≡ taken_as app made (drop 1 words)
  some_taken made taken = rw (sym same_taken ∙ taken, same_matches) refl

-- what the parser said, of a command that is the simple one
module _ {given app : App} (is : given ≡ app) (words : List Text) {found : Option ArgMatches} where
  pub refused : found ≡ None → IfNone found (is_taken given words ≡ false) → is_taken app words ≡ false
  refused none told = subst (λ (a : App). is_taken a words ≡ false) is (rw none at told)

  pub parse_of : {m : ArgMatches} → found ≡ Some m → IfSome found (IsParse given words) → IsParse app words m
  parse_of {m} some told = subst (λ (a : App). IsParse a words m) is (rw some at told)
