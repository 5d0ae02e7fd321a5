use Rattle.std.proofs.Common.{◌≡◌, ◌∙◌, sym, ap, inl, Some}
use Rattle.z_deck.specs.Columns.{type_of}
use Rattle.z_deck.specs.Reading.{fault_of}
use Rattle.z_deck.specs.declared.card.CardType.TheVariants.{Section}
use Rattle.z_deck.proofs.Faults.{behind, none_known, section, relocation, symbol}
use Rattle.z_deck.proofs.card.read_card.Goals as goal

pub returns-then-ended : goal.returns-then-ended
returns-then-ended c = ap (λ b. fault_of c.args.origin b c.args.card.now) c.if-ended.true
    ∙ behind c.args.origin c.args.card.now c.requires.size

pub returns-in-None : goal.returns-in-None
returns-in-None c = ap (λ b. fault_of c.args.origin b c.args.card.now) c.if-ended.false
    ∙ none_known c.args.origin c.args.card.now c.requires.size (sym c.type_of.ensures ∙ c.in-None.is)

pub returns-in-Some-Section : goal.returns-in-Some-Section
returns-in-Some-Section c =
    let typed : type_of c.args.card.now ≡ Some Section = sym c.type_of.ensures ∙ c.in-Some-Section.is ∙ ap Some c.in-Some-Section.field-0-is in (
      ap (λ b. fault_of c.args.origin b c.args.card.now) c.if-ended.false
          ∙ section c.args.origin c.args.card.now c.requires.size typed,
      inl typed,
    )

pub returns-in-Some-Relocation : goal.returns-in-Some-Relocation
returns-in-Some-Relocation c = ap (λ b. fault_of c.args.origin b c.args.card.now) c.if-ended.false
    ∙ relocation c.args.origin c.args.card.now c.requires.size (sym c.type_of.ensures ∙ c.in-Some-Relocation.is ∙ ap Some c.in-Some-Relocation.field-0-is)

pub returns-in-Some-Symbol : goal.returns-in-Some-Symbol
returns-in-Some-Symbol c = ap (λ b. fault_of c.args.origin b c.args.card.now) c.if-ended.false
    ∙ symbol c.args.origin c.args.card.now c.requires.size (sym c.type_of.ensures ∙ c.in-Some-Symbol.is ∙ ap Some c.in-Some-Symbol.field-0-is)
