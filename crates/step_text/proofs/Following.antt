-- Commands one after the other: where each leads, and what it shows.
use Rattle.std.proofs.Common.{◌≡◌, ℕ, ◌+◌, ◌<◌, ◌≤◌, List, [], ◌++◌, length, drop, get_or, refl, sym, ap, ◌∙◌}
use Rattle.std.proofs.Common.{append_assoc}
use Rattle.std.proofs.lemmas.List.{append-nil, at_drop_more, at_drop_all}
use Rattle.step_text.specs.Replies.{target_of, reply_at, replies_from}
use Rattle.step_words.specs.declared.command.StepCommand.{StepCommand}
use Rattle.step_words.specs.declared.command.StepCommand.TheVariants.{Forward, Back, Go, Cpu, Bytes, History}
use Rattle.tx_journal.specs.Content.{Content}
use Rattle.tx_step.specs.Traces.{Traced}

-- no command changes the image
pub image_kept : (c : StepCommand) (t : Traced) → (target_of c t).image ≡ t.image
image_kept (Forward n) t = refl
image_kept (Back n) t = refl
image_kept (Go n) t = refl
image_kept (Cpu cpu) t = refl
image_kept (Bytes first count) t = refl
image_kept History t = refl

-- what a text has, and what commands from a place on show, is what all commands show; the CPUs are the same
pub record Replied (start : Traced) (commands : List StepCommand) (i : ℕ) (t : Traced) (text : List ℕ) : Type 0
  where
    pub told : replies_from start commands ≡ text ++ replies_from t (drop i commands)
    pub same : length t.image.cpus ≡ length start.image.cpus

pub nothing_replied : (start : Traced) (commands : List StepCommand) → Replied start commands 0 start []
nothing_replied start commands = record { told = refl; same = refl }

module _ (start : Traced) (commands : List StepCommand) (i : ℕ) (t : Traced) (text : List ℕ)
    (r : Replied start commands i t text) where
  one_reply : (d : StepCommand) → i < length commands → let c = get_or commands i d in
      replies_from t (drop i commands)
      ≡ reply_at c (target_of c t) ++ replies_from (target_of c t) (drop (i + 1) commands)
  unfolding replies_from
  one_reply d within = at_drop_more (replies_from t) commands i d within

  -- a command more has been replied to
  pub replied_more : (d : StepCommand) → i < length commands → (next : Traced) (after : List ℕ)
      → next ≡ target_of (get_or commands i d) t → after ≡ text ++ reply_at (get_or commands i d) next
      → Replied start commands (i + 1) next after
  replied_more d within next after is grown =
      let c = get_or commands i d in
      let rest = replies_from (target_of c t) (drop (i + 1) commands) in
      record {
        told =
            r.told ∙ ap (λ (x : List ℕ). text ++ x) (one_reply d within)
            ∙ sym (append_assoc text (reply_at c (target_of c t)) rest)
            ∙ ap (λ (n : Traced). (text ++ reply_at c n) ++ replies_from n (drop (i + 1) commands)) (sym is)
            ∙ ap (λ (x : List ℕ). x ++ replies_from next (drop (i + 1) commands)) (sym grown);
        same = ap (λ (n : Traced). length n.image.cpus) is
            ∙ ap (λ (x : Content). length x.cpus) (image_kept c t) ∙ r.same;
      }

  no_reply : length commands ≤ i → replies_from t (drop i commands) ≡ []
  unfolding replies_from
  no_reply all = at_drop_all (replies_from t) commands i all

  -- all have been
  pub all_replied : length commands ≤ i → text ≡ replies_from start commands
  all_replied all =
      sym (r.told ∙ ap (λ (x : List ℕ). text ++ x) (no_reply all) ∙ append-nil text)
