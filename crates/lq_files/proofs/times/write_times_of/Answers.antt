use Rattle.lq_files.proofs.times.write_times_of.Goals as goal

pub write_times_file-requires-clause-at : goal.write_times_file-requires-clause-at
write_times_file-requires-clause-at g c = let fits = c.requires.fits in (fits.0, fits.1, c.new-times.ensures fits.0 fits.1)
