-- What a seat tells at run time.
use Rattle.std.specs.Prelude.{is_some}
use Rattle.lq_table.specs.Views.{View}
use Rattle.lq_table.specs.declared.marks.Marks.{Marks}

-- whether it is the first, its shares, whether it is raised, and whether it has the turn of a packet
abbrev pub marks_of : View → Marks
marks_of v = record { first = v.control.first; shares = v.share.shares; raised = v.place.raised; busy = is_some v.packets.busy }
