use Rattle.std.proofs.Common.{◌≡◌, ◌<◌, ◌∙◌, sym, refl, arith}
use Rattle.z_deck.specs.Reading.{count_of}
use Rattle.z_deck.proofs.Cards.{too_many, empty_text, too_low, too_high, full_text}
use Rattle.z_deck.proofs.card.read_text.Goals as goal
use Rattle.z_deck.proofs.card.read_text.Goals.{then-first-lt-FIRST-via-then-first-lt-FIRST, then-first-lt-FIRST-via-else-first-lt-FIRST+then-first-count-gt-SIZE}

pub returns-then-count-gt-MOST_TEXT : goal.returns-then-count-gt-MOST_TEXT
returns-then-count-gt-MOST_TEXT c =
    let counts : c.from-count.result ≡ count_of c.args.card.now = c.from-count.ensures ∙ c.read_u16.ensures in
    too_many c.args.origin c.args.card.now c.requires.size c.requires.typed c.from-count.result counts
    c.if-count-gt-MOST_TEXT.true

pub returns-then-count-eq0 : goal.returns-then-count-eq0
returns-then-count-eq0 c =
    let counts : c.from-count.result ≡ count_of c.args.card.now = c.from-count.ensures ∙ c.read_u16.ensures in
    empty_text c.args.origin c.args.card.now c.requires.size c.requires.typed c.from-count.result counts
    c.if-count-eq0.true

pub returns-then-first-lt-FIRST : goal.returns-then-first-lt-FIRST
returns-then-first-lt-FIRST c =
    let counts : c.from-count.result ≡ count_of c.args.card.now = c.from-count.ensures ∙ c.read_u16.ensures in
    let some : 0 < c.from-count.result = omega arith in
    elim c.then-first-lt-FIRST.branch [
      | then-first-lt-FIRST-via-then-first-lt-FIRST w ↦ too_low c.args.origin c.args.card.now c.requires.size
          c.requires.typed c.from-count.result counts c.if-count-gt-MOST_TEXT.false some c.address_of-first.result
          c.address_of-first.ensures w.if-first-lt-FIRST.true
      | then-first-lt-FIRST-via-else-first-lt-FIRST+then-first-count-gt-SIZE w ↦ too_high c.args.origin
          c.args.card.now c.requires.size c.requires.typed c.from-count.result counts
          c.if-count-gt-MOST_TEXT.false some c.address_of-first.result c.address_of-first.ensures
          w.if-first-count-gt-SIZE.true
    ]

pub returns : goal.returns
returns c =
    let counts : c.from-count.result ≡ count_of c.args.card.now = c.from-count.ensures ∙ c.read_u16.ensures in
    let some : 0 < c.from-count.result = omega arith in
    full_text c.args.origin c.args.card.now c.requires.size c.requires.typed c.from-count.result counts
    c.if-count-gt-MOST_TEXT.false some c.address_of-first.result c.address_of-first.ensures
    c.if-first-lt-FIRST.false c.if-first-count-gt-SIZE.false _ refl
