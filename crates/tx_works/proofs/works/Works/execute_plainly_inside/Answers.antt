-- What the instruction has told is made of it.
use Rattle.std.proofs.Common.{refl, sym, ap, ◌∙◌}
use Rattle.tx_lines.specs.Going.{told_or}
use Rattle.tx_works.specs.Executing.{operand_by}
use Rattle.tx_works.specs.Works.{kept_by}
use Rattle.tx_works.proofs.works.Works.execute_plainly_inside.Goals as goal

pub tell_inside-requires-clause-left : goal.tell_inside-requires-clause-left
tell_inside-requires-clause-left c rest = record {
  instr = c.args.plain.now.ready.now.instr;
  need = operand_by c.args.plain.now.ready.now.shape c.args.plain.now.first;
  before = kept_by rest c.args.self.now;
  by = record {
    may = c.requires.may rest;
    counted = refl;
    live_is = c.requires.live rest;
    told_is = ap (λ b. told_or b c.run_plainly.new.aside) (sym c.if-run_plainly.true) ∙ c.run_plainly.ensures.told rest;
    left = c.run_plainly.ensures.value rest;
  };
}

pub returns-then-run_plainly-clause-value : goal.returns-then-run_plainly-clause-value
returns-then-run_plainly-clause-value c rest =
    c.tell_inside.ensures.value rest c.args.plain.now.ready.now.instr
    (operand_by c.args.plain.now.ready.now.shape c.args.plain.now.first) (kept_by rest c.args.self.now) (record {
      may = c.requires.may rest;
      counted = refl;
      live_is = c.requires.live rest;
      told_is = ap (λ b. told_or b c.run_plainly.new.aside) (sym c.if-run_plainly.true) ∙ c.run_plainly.ensures.told rest;
      left = c.run_plainly.ensures.value rest;
    }) (c.next_address-at.ensures rest)

pub tell_aside-requires-clause-left : goal.tell_aside-requires-clause-left
tell_aside-requires-clause-left c rest = record {
  instr = c.args.plain.now.ready.now.instr;
  need = operand_by c.args.plain.now.ready.now.shape c.args.plain.now.first;
  before = kept_by rest c.args.self.now;
  by = record {
    may = c.requires.may rest;
    counted = refl;
    live_is = c.requires.live rest;
    told_is = ap (λ b. told_or b c.run_plainly.new.aside) (sym c.if-run_plainly.false) ∙ c.run_plainly.ensures.told rest;
    left = c.run_plainly.ensures.value rest;
  };
}

pub returns-clause-value : goal.returns-clause-value
returns-clause-value c rest =
    c.tell_aside.ensures.value rest c.args.plain.now.ready.now.instr
    (operand_by c.args.plain.now.ready.now.shape c.args.plain.now.first) (kept_by rest c.args.self.now) (record {
      may = c.requires.may rest;
      counted = refl;
      live_is = c.requires.live rest;
      told_is = ap (λ b. told_or b c.run_plainly.new.aside) (sym c.if-run_plainly.false) ∙ c.run_plainly.ensures.told rest;
      left = c.run_plainly.ensures.value rest;
    }) (c.next_address-at.ensures rest)
