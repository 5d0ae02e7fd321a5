use Rattle.std.proofs.Common.{◌≡◌, ◌∙◌, Bool, true, false, cond, eqb, Some, None, refl, ap}
use Rattle.std.specs.Prelude.{◌&&◌}
use Rattle.line_table.specs.declared.table.Mode.TheVariants.{Shared, Exclusive}
use Rattle.line_table.specs.Holders.{Holders, holding, is_against, mode_in}
use Rattle.line_table.proofs.Against.{nobody_against}
use Rattle.conflict_cases.proofs.holders.seen.Goals as goal

pub grant-requires-clause-free : goal.grant-requires-clause-free
grant-requires-clause-free c =
    nobody_against c.in_ok-table.table.cpus (mode_in c.in_ok-table.table) 2 144 Exclusive
    (λ other _ _. ap (λ (h : Holders). is_against Exclusive (h other 144)) c.in_ok-table.ensures.empty)

-- whether the other is CPU 2 or not, it does not stand against a shared request
quiet : (own : Bool)
    → is_against Shared (cond (own && true) (Some Shared) (cond (own && true) (Some Exclusive) None)) ≡ false
quiet true = refl
quiet false = refl

pub grant-requires-2-clause-free : goal.grant-requires-2-clause-free
grant-requires-2-clause-free c =
    let now = c.demote.ensures.held
    ∙ ap (λ (h : Holders). holding h 2 144 (Some Shared)) (c.grant.ensures.held
    ∙ ap (λ (h : Holders). holding h 2 144 (Some Exclusive)) c.in_ok-table.ensures.empty) in
    nobody_against c.demote.new.self.cpus (mode_in c.demote.new.self) 1 144 Shared
    (λ other _ _. ap (λ (h : Holders). is_against Shared (h other 144)) now ∙ quiet (eqb other 2))
