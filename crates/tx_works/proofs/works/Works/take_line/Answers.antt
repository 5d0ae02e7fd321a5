-- The footprint is that of the CPU; there is a line to give up where that is due.
use Rattle.std.proofs.Common.{◌≡◌, ◌<◌, ◌≤◌, ◌||◌, length, sym, ap, subst, ◌∙◌}
use Rattle.std.specs.Prelude.{◌==◌}
use Rattle.std.specs.List.{list_any}
use Rattle.std.proofs.lemmas.List.{get_or_read}
use Rattle.bit_set.specs.Counts.{count_below}
use Rattle.line_table.specs.Sizes.{storage_lines, held_limit}
use Rattle.tx_lines.specs.Parts.{local_of}
use Rattle.tx_footprint.specs.Touched.{Sets, sets_of}
use Rattle.tx_keeping.specs.Kept.{kept_footprint}
use Rattle.tx_keeping.specs.Asking.{k_granting}
use Rattle.tx_lines.specs.Owned.{holders_in}
use Rattle.tx_lines.specs.Spare.{granted}
use Rattle.tx_works.specs.Works.{Works, Seat, kept_by}
use Rattle.tx_works.specs.contracts.works.Works.{the_view}
use Rattle.tx_works.proofs.Changed.{lines_put}
use Rattle.tx_works.proofs.Granted.{one_is_spare, granted_is}
use Rattle.tx_works.proofs.works.Works.take_line.Goals as goal

pub grant-requires-clause-spare : goal.grant-requires-clause-spare
grant-requires-clause-spare c full =
    let w = the_view c.self.inside in
    let rest = c.index-slot.result.now in
    let lt = subst (λ (w : Works). c.args.cpu < length w.slots) (sym c.self.view_is) c.requires.cpu in
    let there = get_or_read w.slots c.args.cpu rest lt c.index-slot.ensures rest in
    let touched : sets_of c.footprint.result.now ≡ kept_footprint (kept_by rest c.args.self.now) c.args.cpu =
    c.footprint.ensures ∙ ap (λ (s : Seat). (local_of s.cpu).attempt.footprint) (c.slot.view_is ∙ there)
    ∙ ap (λ w. kept_footprint (kept_by rest w) c.args.cpu) c.self.view_is in
    one_is_spare (holders_in c.self.inside.lines) c.args.cpu c.args.need.line (sets_of c.footprint.result.now)
    c.args.needed.now full
    (subst (λ (sets : Sets). count_below storage_lines (λ line. (sets.fetched line || sets.stored line)
    || list_any (λ other. other == line) c.args.needed.now) ≤ held_limit) (sym touched)
    (c.requires.few rest).few)
    c.requires.among c.requires.line

pub returns-clause-kept : goal.returns-clause-kept
returns-clause-kept c rest needs those =
    let w = the_view c.self.inside in
    let lt = subst (λ (w : Works). c.args.cpu < length w.slots) (sym c.self.view_is) c.requires.cpu in
    let there = get_or_read w.slots c.args.cpu c.index-slot.result.now lt c.index-slot.ensures rest in
    let sets = sets_of c.footprint.result.now in
    let touched : sets ≡ kept_footprint (kept_by rest w) c.args.cpu =
    c.footprint.ensures ∙ ap (λ (s : Seat). (local_of s.cpu).attempt.footprint) (c.slot.view_is ∙ there) in
    lines_put rest w c.grant.new.self
    (granted c.args.cpu sets c.args.needed.now c.args.need (holders_in c.self.inside.lines))
    c.grant.ensures.bytes
    c.grant.ensures.held
    ∙ granted_is c.args.cpu needs c.args.need (kept_by rest w) sets c.args.needed.now those touched
    ∙ ap (λ w. k_granting c.args.cpu needs c.args.need (kept_by rest w)) c.self.view_is
