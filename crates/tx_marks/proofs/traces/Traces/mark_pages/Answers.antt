use Rattle.std.proofs.Common.{◌+◌, ◌-◌, ◌/◌, ◌∙◌, ap, sym, arith}
use Rattle.bit_set.specs.Bits.{lies_in}
use Rattle.tx_marks.proofs.RunsPlaced.{paged_run, paged_alone}
use Rattle.std.specs.Prelude.{◌||◌}
use Rattle.z_regs.specs.Prefix.{absolute_of}
use Rattle.tx_marks.specs.Traces.{Traces, is_paged, has_page, lies_on}
use Rattle.tx_marks.proofs.BytesTouched.{up_marked}
use Rattle.tx_marks.proofs.traces.Traces.mark_pages.Goals as goal

pub loop-k-preserved : goal.loop-k-preserved
loop-k-preserved c = record {
  stored = c.mark_page-in-loop-k.ensures.stored ∙ c.loop-k.invariant.stored;
  marks = λ p. up_marked (lies_on p) c.args.prefix c.args.first c.loop-k.k (is_paged c.args.self.now p)
      (is_paged c.loop-k.self p) (is_paged c.mark_page-in-loop-k.new.self p) (c.loop-k.invariant.marks p)
      (c.mark_page-in-loop-k.ensures.pages p ∙ ap (λ a. is_paged c.loop-k.self p || lies_on p a) (c.place_of.ensures
      ∙ ap (λ k. absolute_of c.args.prefix (c.args.first + k)) c.from-in-loop-k.ensures));
}

pub returns-then-stay-clause-pages : goal.returns-then-stay-clause-pages
returns-then-stay-clause-pages c = λ page.
    c.insert_run.ensures.marks page
    ∙ ap (λ (t : Traces). is_paged t page
    || lies_in (c.args.first / 4096) ((c.args.first + c.from.result - 1) / 4096 + 1) page) c.self.view_is
    ∙ ap (λ end. is_paged c.args.self.now page || lies_in (c.args.first / 4096) ((end - 1) / 4096 + 1) page)
    (ap (λ n. c.args.first + n) c.from.ensures)
    ∙ ap (λ b. is_paged c.args.self.now page || b)
    (sym (paged_run c.args.first c.args.length page (omega (arith, c.if-length-eq0.false)))
    ∙ ap (λ places. has_page places page) (sym (c.stay.ensures c.if-stay.true)))

pub returns-then-first-last-clause-pages : goal.returns-then-first-last-clause-pages
returns-then-first-last-clause-pages c = λ page.
    let first = c.args.first in
    c.mark_page.ensures.pages page
    ∙ ap (λ b. is_paged c.args.self.now page || b)
    (sym (paged_alone first c.args.length page (omega (arith, c.if-length-eq0.false))
    (c.if-first-last.true ∙ ap (λ n. (first + n - 1) / 4096) c.from.ensures))
    ∙ ap (λ places. has_page places page) (sym (c.stay.ensures c.if-stay.true)))
