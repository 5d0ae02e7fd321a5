use Rattle.std.proofs.Common.{◌∙◌}
use Rattle.z_arith.specs.Product.{multiply_low_of}
use Rattle.z_arith.proofs.ProductLemmas.{low_product}
use Rattle.z_arith.proofs.products.multiply_low.Goals as goal

pub returns-clause-value : goal.returns-clause-value
unfolding multiply_low_of
returns-clause-value c =
    c.low.ensures ∙ low_product c.args.w c.args.a c.args.b c.requires.a_in c.requires.b_in
