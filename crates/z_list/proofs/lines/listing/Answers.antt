use Rattle.z_list.proofs.lines.listing.Goals as goal

pub add_lines-requires : goal.add_lines-requires
add_lines-requires c =
    rw (c.as_slice.ensures.value, c.as_slice-2.ensures.value) c.image.invariant.readings
