-- What a machine starts from is the same where its image and its limits are.
use Rattle.std.proofs.Common.{◌≡◌, ap, ◌∙◌}
use Rattle.tx_journal.specs.Content.{Content}
use Rattle.tx_meaning.specs.Limits.{RunLimits, Setting}

abbrev pub with_both : Content → RunLimits → Setting
with_both image limits = record { image = image; limits = limits }

pub same_setting : (image other : Content) (limits others : RunLimits) → image ≡ other → limits ≡ others
    → with_both image limits ≡ with_both other others
same_setting image other limits others i l =
    ap (λ x. with_both x limits) i ∙ ap (λ x. with_both other x) l
