-- What a CPU and the lines have become by so many turns, in what is kept.
use Rattle.std.proofs.Common.{◌≡◌, ℕ, ◌+◌, ◌<◌, length, set, sym, ap, subst, ◌∙◌}
use Rattle.tx_meaning.specs.Flat.{at_put}
use Rattle.tx_works.specs.Local.{Beside}
use Rattle.tx_works.specs.Owned.{Owned, holders_in, with_lines}
use Rattle.tx_works.specs.declared.slot.Tally.{Tally}
use Rattle.tx_works.specs.Works.{Seat, Works, seats_of, kept_by}
use Rattle.tx_works.specs.Kept.{beside}
use Rattle.tx_works.proofs.Seats.{IsAt, put-is, seat-is, beside-is}
use Rattle.tx_works.proofs.Tables.{put_as_is}
use Rattle.tx_home.specs.Taken.{left_by}

-- with so many turns more
abbrev pub with_count : ℕ → Tally → Tally
with_count k n = record n { turns = n.turns + k }

brought-old : (rest : Seat) (old : Works) (i k : ℕ) (s t : Seat) (lines : Owned) (b : Beside) → i < length old.slots
    → s ≡ seats_of rest old.slots i → t.ladder ≡ s.ladder → t.tally ≡ with_count k s.tally → with_lines t.cpu lines ≡ b
    → holders_in lines ≡ holders_in old.lines
    → kept_by rest (record old { slots = set old.slots i t; lines = lines }) ≡ left_by i k b (kept_by rest old)
brought-old rest old i k s t lines b known is ladder tally after held =
    let kept = kept_by rest old in
    let stands : t.ladder ≡ kept.standings i = ladder ∙ ap (λ (s : Seat). s.ladder) is in
    let counts : t.tally ≡ with_count k (seats_of rest old.slots i).tally =
    tally ∙ ap (λ (s : Seat). with_count k s.tally) is in
    let same : at_put kept.standings i t.ladder ≡ kept.standings = put_as_is kept.standings i t.ladder stands in
    put-is rest old i t lines known
    ∙ (λ x. record {
      state = record (kept.state) {
        held = held x;
        numbers = at_put kept.state.numbers i (record {
          completed = (after x).local.attempt.count;
          attempts = (counts x).attempts;
          given = (stands x).rejects_given;
          refused = (stands x).requests_rejected;
          delay = (counts x).delay;
          turns = (counts x).turns;
          asked = (counts x).asked;
          rejected = (counts x).rejected;
        });
      };
      storage = (after x).storage;
      locals = at_put kept.locals i (after x).local;
      standings = same x;
    })

pub brought-is : (rest : Seat) (old now : Works) (i k : ℕ) (s t : Seat) (lines : Owned) (f : Beside → Beside)
    → IsAt old now i s → t.ladder ≡ s.ladder → t.tally ≡ with_count k s.tally
    → with_lines t.cpu lines ≡ f (with_lines s.cpu old.lines) → holders_in lines ≡ holders_in old.lines
    → kept_by rest (record old { slots = set old.slots i t; lines = lines })
    ≡ left_by i k (f (beside (kept_by rest now) i)) (kept_by rest now)
brought-is rest old now i k s t lines f at ladder tally after held =
    let is : s ≡ seats_of rest old.slots i =
    seat-is old now i s rest at ∙ ap (λ (w : Works). seats_of rest w.slots i) (sym at.view) in
    let known : i < length old.slots = subst (λ (w : Works). i < length w.slots) (sym at.view) at.known in
    brought-old rest old i k s t lines (f (with_lines s.cpu old.lines)) known is ladder tally after held
    ∙ ap (λ (b : Beside). left_by i k (f b) (kept_by rest old)) (beside-is rest old now i s at)
    ∙ ap (λ (w : Works). left_by i k (f (beside (kept_by rest now) i)) (kept_by rest w)) at.view
