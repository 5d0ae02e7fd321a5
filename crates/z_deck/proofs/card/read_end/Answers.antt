use Rattle.std.proofs.Common.{◌≡◌, ◌∙◌, true, false, sym, ap, List, ℕ}
use Rattle.std.specs.Str.{bytes_eq}
use Rattle.z_deck.specs.Columns.{at, address_field, no_entry}
use Rattle.z_deck.proofs.Cards.{end_without, end_outside, end_with}
use Rattle.z_deck.proofs.card.read_end.Goals as goal

pub returns-then-eq : goal.returns-then-eq
returns-then-eq c =
    let blanks : bytes_eq (at address_field c.args.card.now) no_entry ≡ true =
    ap (λ (s : List ℕ). bytes_eq (at address_field c.args.card.now) s) (sym c.as_slice.ensures)
    ∙ sym c.eq.ensures ∙ c.if-eq.true in
    end_without c.args.origin c.args.card.now c.requires.size c.requires.typed blanks

pub returns-then-entry-ge-SIZE : goal.returns-then-entry-ge-SIZE
returns-then-entry-ge-SIZE c =
    let inked : bytes_eq (at address_field c.args.card.now) no_entry ≡ false =
    ap (λ (s : List ℕ). bytes_eq (at address_field c.args.card.now) s) (sym c.as_slice.ensures)
    ∙ sym c.eq.ensures ∙ c.if-eq.false in
    end_outside c.args.origin c.args.card.now c.requires.size c.requires.typed inked c.address_of-entry.result
    c.address_of-entry.ensures c.if-entry-ge-SIZE.true

pub returns : goal.returns
returns c =
    let inked : bytes_eq (at address_field c.args.card.now) no_entry ≡ false =
    ap (λ (s : List ℕ). bytes_eq (at address_field c.args.card.now) s) (sym c.as_slice.ensures)
    ∙ sym c.eq.ensures ∙ c.if-eq.false in
    end_with c.args.origin c.args.card.now c.requires.size c.requires.typed inked c.address_of-entry.result
    c.address_of-entry.ensures c.if-entry-ge-SIZE.false
