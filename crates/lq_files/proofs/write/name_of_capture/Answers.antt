use Rattle.lq_files.proofs.write.name_of_capture.Goals as goal

pub returns : goal.returns
returns c = c.format.ensures.ok
