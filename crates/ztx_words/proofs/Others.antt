-- Words of which the first is no subcommand's name are no command.
use Rattle.std.proofs.Common.{◌≡◌, ◌∙◌, ap, Bool, true, false, List, [], ◌∷◌, map, Some, None, refl}
use Rattle.std.proofs.Common.{subst, sym, unwrap_or}
use Rattle.std.specs.Prelude.{codes, slice_get}
use Rattle.std.specs.Str.{bytes_eq}
use Rattle.std.proofs.lemmas.Slice.Eq.{bytes_eq-Decides}
use Rattle.clap.specs.Words.{Text}
use Rattle.ztx_words.specs.Words.{command_of}

pub unlike : (s t : Text) → (s ≡ t → ⊥) → bytes_eq s t ≡ false
unlike s t differs = go (bytes_eq s t) refl
  where
    go : (b : Bool) → bytes_eq s t ≡ b → b ≡ false
    go true same = absurd (differs ((bytes_eq-Decides s t).0 same))
    go false other = refl

-- the name is no subcommand's
pub record IsNoName (name : Text) : Type 0 where
  pub list : name ≡ codes "list" → ⊥
  pub run : name ≡ codes "run" → ⊥
  pub race : name ≡ codes "race" → ⊥
  pub generate : name ≡ codes "generate" → ⊥
  pub summary : name ≡ codes "summary" → ⊥
  pub check : name ≡ codes "check" → ⊥
  pub heat : name ≡ codes "heat" → ⊥
  pub deck : name ≡ codes "deck" → ⊥
  pub step : name ≡ codes "step" → ⊥

no_command : (name : Text) (others : List Text) → IsNoName name → command_of (name ∷ others) ≡ None
no_command name others other =
    let list = unlike _ _ other.list in
    let run = unlike _ _ other.run in
    let race = unlike _ _ other.race in
    let generate = unlike _ _ other.generate in
    let summary = unlike _ _ other.summary in
    let check = unlike _ _ other.check in
    let heat = unlike _ _ other.heat in
    let deck = unlike _ _ other.deck in
    rw (list, run, race, generate, summary, check, heat, deck, unlike _ _ other.step) refl

pub other_words : {X : Type 0} (text_of : X → Text) (words : List X) (first : X) (name : Text)
    → Some first ≡ slice_get words 0 → name ≡ text_of first → IsNoName name
    → None ≡ command_of (map text_of words)
other_words text_of [] first name is same other = cc
other_words text_of (word ∷ words) first name is same other =
    let named : name ≡ text_of word = same ∙ ap text_of (ap (λ o. unwrap_or o word) is) in
    sym (no_command (text_of word) (map text_of words) (subst IsNoName named other))
