-- An octoword that stands at its place is there, and one that does not is put there where there is room.
use Rattle.std.proofs.Common.{◌≡◌, true, false, length, sym, ap, ◌∙◌, refl, arith}
use Rattle.std.specs.List.{insert}
use Rattle.std.proofs.lemmas.Bool.{le-leb, lt-leb, eqb-true, eqb-false}
use Rattle.z_regs.specs.Rising.{with_number}
use Rattle.z_regs.proofs.Rising.{stays_at, put_at, put_is_longer}
use Rattle.tx_constraint.proofs.octowords.Octowords.add.Goals as goal

pub returns-then-is_at-clause-added : goal.returns-then-is_at-clause-added
returns-then-is_at-clause-added c =
    sym (stays_at c.args.octoword c.place-at.result c.args.self.now c.as_slice-2.result.now c.as_slice.result.now
    (c.as_slice-2.ensures.value ∙ c.self.view_is) (c.as_slice.ensures.value ∙ c.self.view_is) c.place-at.ensures.value
    ((c.if-is_at.ensures).0 refl))

pub returns-then-is_at-clause-room : goal.returns-then-is_at-clause-room
returns-then-is_at-clause-room c =
    let stays = stays_at c.args.octoword c.place-at.result c.args.self.now c.as_slice-2.result.now
    c.as_slice.result.now (c.as_slice-2.ensures.value ∙ c.self.view_is) (c.as_slice.ensures.value ∙ c.self.view_is)
    c.place-at.ensures.value ((c.if-is_at.ensures).0 refl) in
    let same = ap length (c.as_slice.ensures.value ∙ c.self.view_is) in
    sym (le-leb (length (with_number c.args.self.now c.args.octoword)) 4
    (omega (arith, ap length stays, same, c.as_slice.ensures.fits)))

pub returns-then-is_full-clause-room : goal.returns-then-is_full-clause-room
returns-then-is_full-clause-room c =
    let longer = put_is_longer c.args.octoword c.place-at.result c.args.self.now c.as_slice-2.result.now
    c.as_slice.result.now (c.as_slice-2.ensures.value ∙ c.self.view_is) (c.as_slice.ensures.value ∙ c.self.view_is)
    c.place-at.ensures.value (λ e. let n : false ≡ true = (c.if-is_at.ensures).1 e in cc) in
    let same = ap length (c.as_slice.ensures.value ∙ c.self.view_is) in
    let full : length c.self.inside.numbers.items ≡ 4 = eqb-true _ _ (sym c.if-is_full.ensures.value) in
    let all = ap length c.self.view_is in
    sym (lt-leb (length (with_number c.args.self.now c.args.octoword)) 4
    (omega (arith, longer (omega (arith, same, c.place-at.ensures.within)), full, all)))

pub returns-clause-room : goal.returns-clause-room
returns-clause-room c =
    let longer = put_is_longer c.args.octoword c.place-at.result c.args.self.now c.as_slice-2.result.now
    c.as_slice.result.now (c.as_slice-2.ensures.value ∙ c.self.view_is) (c.as_slice.ensures.value ∙ c.self.view_is)
    c.place-at.ensures.value (λ e. let n : false ≡ true = (c.if-is_at.ensures).1 e in cc) in
    let same = ap length (c.as_slice.ensures.value ∙ c.self.view_is) in
    let fits = c.if-is_full.ensures.fits in
    let less = eqb-false _ _ (sym c.if-is_full.ensures.value) in
    let all = ap length c.self.view_is in
    sym (le-leb (length (with_number c.args.self.now c.args.octoword)) 4
    (omega (arith, longer (omega (arith, same, c.place-at.ensures.within)), fits, less, all)))

pub returns-clause-added : goal.returns-clause-added
returns-clause-added c =
    c.insert.ensures.items
    ∙ ap (λ xs. insert xs c.place-at.result c.args.octoword) c.self.view_is
    ∙ put_at c.args.octoword c.place-at.result c.args.self.now c.as_slice-2.result.now c.as_slice.result.now
    (c.as_slice-2.ensures.value ∙ c.self.view_is) (c.as_slice.ensures.value ∙ c.self.view_is) c.place-at.ensures.value
    (λ e. let n : false ≡ true = (c.if-is_at.ensures).1 e in cc)
