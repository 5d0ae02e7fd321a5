use Rattle.std.proofs.Common.{◌≡◌, ℕ, ◌+◌, ◌/◌, ◌%◌, Bool, ◌&&◌, ◌||◌, leb, ltb, sym, ap, ◌∙◌, arith}
use Rattle.std.proofs.lemmas.Bool.{or_left}
use Rattle.tx_constraint.specs.Bytes.{first_piece, end_piece}
use Rattle.tx_constraint.proofs.Between.{near_is}
use Rattle.tx_constraint.proofs.pieces.is_near.Goals as goal

-- a number is among those from the first up to an end
abbrev is_in : ℕ → ℕ → ℕ → Bool
is_in first end k = leb first k && ltb k end

pub returns-then-has : goal.returns-then-has
returns-then-has c =
    let r = c.args.range in
    let first_page = c.args.begin / 4096 in
    let last_page = (c.args.begin + 255) / 4096 in
    let one : c.has.result ≡ is_in (first_piece 4096 r) (end_piece 4096 r) first_page =
    c.has.ensures
    ∙ (λ i. is_in (c.pieces_of-pages.ensures.first i) (c.pieces_of-pages.ensures.end i) first_page) in
    c.if-has.true
    ∙ sym (near_is c.args.begin r
    ∙ or_left (is_in (first_piece 4096 r) (end_piece 4096 r) first_page)
    (is_in (first_piece 4096 r) (end_piece 4096 r) last_page) (sym one ∙ c.if-has.true))

pub returns-else-has : goal.returns-else-has
returns-else-has c =
    let r = c.args.range in
    let first_page = c.args.begin / 4096 in
    let last_page = (c.args.begin + 255) / 4096 in
    let last_is : c.args.begin / 4096 + (c.args.begin % 4096 + 255) / 4096 ≡ last_page = omega arith in
    let one : c.has.result ≡ is_in (first_piece 4096 r) (end_piece 4096 r) first_page =
    c.has.ensures
    ∙ (λ i. is_in (c.pieces_of-pages.ensures.first i) (c.pieces_of-pages.ensures.end i) first_page) in
    let other : c.has-else-has.result ≡ is_in (first_piece 4096 r) (end_piece 4096 r) last_page =
    c.has-else-has.ensures
    ∙ (λ i. is_in (c.pieces_of-pages.ensures.first i) (c.pieces_of-pages.ensures.end i) (last_is i)) in
    other
    ∙ sym (near_is c.args.begin r
    ∙ ap (λ b. b || is_in (first_piece 4096 r) (end_piece 4096 r) last_page) (sym one ∙ c.if-has.false))
