-- What the instruction has told is made of it, inside a transaction or outside.
use Rattle.std.proofs.Common.{refl, sym, ap, ◌∙◌}
use Rattle.tx_lines.specs.Going.{told_or}
use Rattle.tx_works.specs.Executing.{operand_by}
use Rattle.tx_works.specs.Works.{kept_by}
use Rattle.tx_works.proofs.works.Works.execute_there.Goals as goal

pub tell-requires-clause-left : goal.tell-requires-clause-left
tell-requires-clause-left c rest = record {
  instr = c.args.plain.now.ready.now.instr;
  need = operand_by c.args.plain.now.ready.now.shape c.args.plain.now.first;
  before = kept_by rest c.args.self.now;
  by = record {
    may = c.requires.may rest;
    counted = refl;
    live_is = sym (c.is_live-live.ensures rest);
    told_is = ap (λ b. told_or b c.run_there.new.aside) (sym c.if-run_there.true) ∙ c.run_there.ensures.told rest;
    left = c.run_there.ensures.value rest;
  };
}

pub returns-then-run_there-clause-value : goal.returns-then-run_there-clause-value
returns-then-run_there-clause-value c rest =
    c.tell.ensures.value rest c.args.plain.now.ready.now.instr
    (operand_by c.args.plain.now.ready.now.shape c.args.plain.now.first) (kept_by rest c.args.self.now) (record {
      may = c.requires.may rest;
      counted = refl;
      live_is = sym (c.is_live-live.ensures rest);
      told_is = ap (λ b. told_or b c.run_there.new.aside) (sym c.if-run_there.true) ∙ c.run_there.ensures.told rest;
      left = c.run_there.ensures.value rest;
    }) (c.next_address-at.ensures rest)

pub tell_aside-requires-clause-left : goal.tell_aside-requires-clause-left
tell_aside-requires-clause-left c rest = record {
  instr = c.args.plain.now.ready.now.instr;
  need = operand_by c.args.plain.now.ready.now.shape c.args.plain.now.first;
  before = kept_by rest c.args.self.now;
  by = record {
    may = c.requires.may rest;
    counted = refl;
    live_is = sym (c.is_live-live.ensures rest);
    told_is = ap (λ b. told_or b c.run_there.new.aside) (sym c.if-run_there.false) ∙ c.run_there.ensures.told rest;
    left = c.run_there.ensures.value rest;
  };
}

pub returns-clause-value : goal.returns-clause-value
returns-clause-value c rest =
    c.tell_aside.ensures.value rest c.args.plain.now.ready.now.instr
    (operand_by c.args.plain.now.ready.now.shape c.args.plain.now.first) (kept_by rest c.args.self.now) (record {
      may = c.requires.may rest;
      counted = refl;
      live_is = sym (c.is_live-live.ensures rest);
      told_is = ap (λ b. told_or b c.run_there.new.aside) (sym c.if-run_there.false) ∙ c.run_there.ensures.told rest;
      left = c.run_there.ensures.value rest;
    }) (c.next_address-at.ensures rest)
