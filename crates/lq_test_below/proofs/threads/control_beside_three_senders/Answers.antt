use Rattle.lq_test_below.proofs.threads.control_beside_three_senders.Goals as goal

pub join_sender-requires-2-clause-first : goal.join_sender-requires-2-clause-first
join_sender-requires-2-clause-first g c _ = (_, c.join_sender.ensures.first _ c.run-done.ensures.first)

pub join_sender-requires-3-clause-first : goal.join_sender-requires-3-clause-first
join_sender-requires-3-clause-first g c _ = (_, c.join_sender-2.ensures.first _ (c.join_sender.ensures.first _ c.run-done.ensures.first))

pub swap_device-requires-clause-first : goal.swap_device-requires-clause-first
swap_device-requires-clause-first g c _ =
    c.join_sender-3.ensures.first _ (c.join_sender-2.ensures.first _ (c.join_sender.ensures.first _ c.run-done.ensures.first))
