use Rattle.std.proofs.Common.{◌≡◌, ◌∙◌, refl, false, [], ◌∷◌, inl, inr}
use Rattle.clap.specs.Words.{app_of, kind_of}
use Rattle.clap.specs.Kinds.{HasKind, Kinds}
use Rattle.clap.specs.declared.error.Error.{Error}
use Rattle.clap.specs.declared.error.kind.ErrorKind.TheVariants.{OutOfMemory}
use Rattle.ztx_words.specs.Words.{is_none_of}
use Rattle.ztx_words.proofs.Simple.{simple_of_free}
use Rattle.ztx_words.proofs.reading.matches_in.Goals as goal

-- an error that is no want of memory has one of the kinds
some_kind : (kinds : Kinds) (e : Error) → HasKind kinds e → (kind_of e ≡ OutOfMemory → ⊥)
    → is_none_of kinds ≡ false
some_kind [] e (inl memory) other = absurd (other memory)
some_kind [] e (inr none) other = absurd none
some_kind (kind ∷ kinds) e has other = refl

pub returns-in-Ok-clause-found : goal.returns-in-Ok-clause-found
returns-in-Ok-clause-found c =
    let parse = c.in-Ok.ensures in record {
      taken = rw (parse.kinds c.requires) refl;
      rows = (parse.matches (simple_of_free (app_of c.args.command) c.requires)).0;
      command = c.args.command;
      is = refl;
      parsed = parse.parsed;
    }

pub returns : goal.returns
returns c = record {
  found = tt;
  none = some_kind _ c.in-Err.error (c.in-Err.ensures.kinds c.requires)
      (λ memory. c.in_default.not-OutOfMemory (c.kind.ensures ∙ memory));
}
