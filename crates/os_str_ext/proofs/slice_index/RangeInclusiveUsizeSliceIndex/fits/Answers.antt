use Rattle.os_str_ext.proofs.slice_index.RangeInclusiveUsizeSliceIndex.fits.Goals as goal

pub returns : goal.returns
returns g c = rw (c.start.ensures, c.end.ensures) at c.fits_inclusive.ensures
