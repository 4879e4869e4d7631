-- The names that the proofs use of other crates, and of this one's `specs`: lists and numbers, the model, the walk over it, words, and what the laws say.
pub use Rattle.std.proofs.Common.{Bool, List, [], ap, append-nil, append_assoc, arith, drop-drop, false, inl, inr, refl, subst, suc, sym, take, true, true≢false, zero, ◌++◌, ◌+◌, ◌<◌, ◌==◌, ◌∙◌, ◌∷◌, ◌≡◌, ◌≤◌, ◌⊎◌}
pub use Rattle.std.proofs.Math.Path.{fun_ext}
pub use Rattle.std.proofs.Math.Seq.{drop-append_seam}
pub use Rattle.std.proofs.lemmas.Bool.{cond_both, and_from, and_parts, cases_Bool, cases_eq, cases_lt, eq-eqb, eqb-false, eqb-true, false_from_ne_true, false≢true, leb-true, ne_eqb, not-true, not_from_false, not_from_true, or_cases}
pub use Rattle.std.proofs.lemmas.Bool.Decides.{nat_tests}
pub use Rattle.std.proofs.lemmas.List.{length-append, length-map, map-append, nil_from_length}
pub use Rattle.std.proofs.lemmas.List.Concat.{flat_map-append}
pub use Rattle.std.proofs.lemmas.List.Elements.{filter-append}
pub use Rattle.std.proofs.lemmas.List.Folds.{list_any-append}
pub use Rattle.std.proofs.lemmas.Nat.{mod_below}
pub use Rattle.std.specs.List.{AllByRecursion, cons_option, list_all, list_any, range_with_len}
pub use Rattle.std.specs.Prelude.{None, Option, Some, drop, filter, find, flat_map, if◌then◌else◌, is_none, is_some, length, map, max, nat_le, nat_lt, not, option_map, replicate, unwrap_or, ℕ, ◌&&◌, ◌*◌, ◌-◌, ◌||◌}
pub use Rattle.partition_ring.proofs.LawLemmas.{same_copies}
pub use Rattle.partition_ring.specs.Placement.{host_of, ordered_copies, part_of, slot_of, slots_of_part, start_in}
pub use Rattle.volt_base.specs.declared.entry.Entry.{Entry}
pub use Rattle.volt_base.specs.declared.entry.Entry.TheVariants.{Done, Frag, Sp}
pub use Rattle.volt_base.specs.declared.entry.Outcome.{Outcome}
pub use Rattle.volt_wire.specs.Stream.{StreamHead}
pub use Rattle.volt_wire.specs.Word.{Membership}
pub use Rattle.volt_wire.specs.declared.actor.Actor.{Actor}
pub use Rattle.volt_wire.specs.declared.actor.Actor.TheVariants.{Agent, Client, Director, Scanner, Site}
pub use Rattle.volt_wire.specs.declared.event.Event.{Event}
pub use Rattle.volt_wire.specs.declared.item.Item.{Item}
pub use Rattle.volt_wire.specs.declared.item.TimedItem.{TimedItem}
pub use Rattle.volt_wire.specs.declared.message.Msg.{Msg}
pub use Rattle.cluster_model.proofs.Runs.{in-epoch-kept, reached-kept}
pub use Rattle.cluster_model.proofs.Starts.{takes-next}
pub use Rattle.cluster_model.specs.Agent.{agent_handler, agent_runs, agent_takes, agent_turn, decides_word, handler_and_word, is_other_word, is_word, may_decide, on_closed, on_decided, on_word, says, start_taken, takes_word, unless_stopped, word_to}
pub use Rattle.cluster_model.specs.AgentState.{AgentState, initiates, new_agent, stops, stops_others, stops_with_host}
pub use Rattle.cluster_model.specs.declared.initiating.Queued.TheVariants.{Admission, ToRun}
pub use Rattle.cluster_model.specs.declared.initiating.Queued.{Queued}
pub use Rattle.cluster_model.specs.Client.{ClientState, Due, submit_to, submits, target}
pub use Rattle.cluster_model.specs.Director.{DirectorState, asks_recovery, does, does_next, stops_host}
pub use Rattle.cluster_model.specs.Disk.{Shown, after_failure, after_parts}
pub use Rattle.cluster_model.specs.Engine.{Database}
pub use Rattle.cluster_model.specs.Environment.{DiskFails, DisksShow, Environment, NoFault, NoMemory}
pub use Rattle.cluster_model.specs.Events.{allows, can, delivered, happens, is_actor, is_some_letter, may_do, recovered_with, step}
pub use Rattle.cluster_model.specs.Replies.{end_of_reply}
pub use Rattle.cluster_model.specs.Laws.{RiseFrom, start_in_letter, starts_in}
pub use Rattle.cluster_model.specs.Letters.{Arrival, Blocks, Letter, Refused, Sends, Taken, Turn, Waiting, Waits, above_term, arrival, becomes, in_term, letter_in, letter_to, no_sends, of_term, only, open_letter, same, sending, ◌▸◌}
pub use Rattle.cluster_model.specs.Log.{answer_behind, last_done, nothing_open, open_in}
pub use Rattle.cluster_model.specs.Recover.{is_of_host, left_contents, new_base, new_channels, new_log, starts_anew, stays_stopped}
pub use Rattle.cluster_model.specs.Runs.{Happening, Reached, RunsInEpoch, has_failed, may_happen, renews, renews_at, renews_by}
pub use Rattle.cluster_model.specs.Scanner.{Scan, ScannerState, scan_block, scan_turn, scanner_turn, scans}
pub use Rattle.cluster_model.specs.Site.{acked_in, answers_held, appends_all, as_member, asks_to_join, can_take, counts, ends_streams, finishes_load, firm_now, floor_now, from_agent, from_director, from_scanner, from_site, has_all_on_disk, holds, holds_for, in_new_term, initiator_in, is_first_term, is_lost_in, is_sent, lacks, leads_with, longest, looked, may_finish, may_stream, noted, of_order, on_ack, on_chunk, on_done, on_frag, on_join_ask, on_look, on_power, on_put, on_repair, on_report, on_scan_end, on_sp_call, on_stop, on_stream_end, on_stream_start, on_task, on_view, order_of, ordered, own_ack, put_to, repair_to, repairs, reports_to, runs_call, runs_calls, sends_firm, settles, shows, site_handler, site_runs, site_takes, stream_ends_to, stream_head, takes_asks, takes_first_ask, takes_joiner, tasks_to, tells_initiator, with_count, with_joining, with_position, without_count, without_first, works_calls}
pub use Rattle.cluster_model.specs.SiteState.{Ask, AskedCall, Held, Joiner, Joining, Reported, SiteState, Streamed, copies_in, is_joiner, is_leader, is_member_site, leader_in, leads, member_site, new_joiner, new_joining, no_site, other_copies, site_term, start_in_view, stopped_site}
pub use Rattle.cluster_model.specs.declared.scanning.Scanning.TheVariants.{ForBase, ForJoiner}
pub use Rattle.cluster_model.specs.declared.scanning.Scanning.{Scanning}
pub use Rattle.cluster_model.specs.Sync.{acknowledges, after_sync, joiner_written, may_sync, member_written, owes_in, parts_of_message, parts_of_sync, says_loaded, site_turn, stops_so, sync_turn, syncs, written}
pub use Rattle.cluster_model.specs.Words.{Deployment, admits, copies, first_of, host_of_slot, is_down, is_host, is_in, is_member, is_slot_of, is_some_of, leader, members, part_of_slot, parts, slots, slots_of_host, start_of, start_of_slot, term_in, term_of, union, with_lost, with_number}
pub use Rattle.cluster_model.specs.World.{AuthoritativeLog, Input, Stopped, World, authoritative_after, first_initiating, first_world, greatest_done, member_agent, new_word, rest, sent, set_at, stamp_of, start_from, stop_noted, stops_with, took, with_client, with_director, with_scanner, with_site}
pub use Rattle.cluster_steps.proofs.Appends.{Appended, Passed, appends-all, appends-one, grown, leads-with}
pub use Rattle.cluster_steps.proofs.Channels.{sent-both, sent-nothing, sent-twice, starts-append, starts-if, stops_all-starts, took-all}
pub use Rattle.cluster_steps.proofs.Leaders.{a-joiner, leader-same, leader-view, leads-parts, not-joiner}
pub use Rattle.cluster_steps.proofs.Least.{acked_in-from, reach_now, reach_now-copy, reach_now-joiner, reach_now-own}
pub use Rattle.cluster_steps.proofs.Lists.{all-append, all-at, all-behind, all-filter, all-from, all-if, all-mono, all-one, and-false, eqb-same, filter-all, filter-in, if-false, if-true, in-cases, in-filter, in-left, in-map, in-map-from, in-none, in-one, in-right, is_none-none, list_all-at, list_any-from, list_any-in, none-and-some, not-both, only-one, rise-append, same-some, set-both, set-here, set-same, set-there, set-twice, some-here}
pub use Rattle.cluster_steps.proofs.Prefixes.{prefix-append, prefix-grows, prefix-length, prefix-refl, prefix-rest, prefix-same, prefix-take, prefix-trans, prefixes-compare, prefixes-order, take-grown, take-of-prefix, take-prefix, take-short}
pub use Rattle.cluster_steps.proofs.Sends.{all-order, end_letter, in_order, put-all, put_letter, repair-all, repair-cases, repair_letter, stream_ends-all, task_letter, tasks-all}
pub use Rattle.cluster_steps.specs.Lists.{In, Prefix}
pub use Rattle.word_laws.proofs.Admissions.{not-earlier-self}
pub use Rattle.word_laws.proofs.AgentEvents.{asked-waiting, calm-event, came-still, comes-first, handler-event, ignored-event, none-taken, none-waited, refused-event, start-of-body, stays-holds, stop-pops, waits-event}
pub use Rattle.word_laws.proofs.Agreement.{alike-same, at-good, member-is, member-of, one-first, running-member, term-same}
pub use Rattle.word_laws.proofs.Algebra.{admits-firsts, admits-fresh, firsts, in-with_number, names-admits, names-first, names-within, same_word-refl, subset-length, within-cases, within-of-term, within-refl}
pub use Rattle.word_laws.proofs.Arrivals.{AgentTakes, Ignores, Runs_, Stops_, runs-refused, runs-taken, runs-waits, stopped-cases, takes-cases, turn-cases, unless-running, waiting-brings}
pub use Rattle.word_laws.proofs.Calm.{Calm, SaysNoWord, asked_by, handler-calm, loaded_by}
pub use Rattle.word_laws.proofs.Draws.{director-inert-holds, draws-holds}
pub use Rattle.word_laws.proofs.Epochs.{boot-holds, epoch_state, first-there, new_history, new_owner, recovery-holds, start_of-first}
pub use Rattle.word_laws.proofs.Hearings.{WordsTurn, after-handler, agent-there, concludes-none, decides-handler, handler-grows, handler-later, handler-plain, none-handler, others-after, stay-handler, then-assoc, then-inert}
pub use Rattle.word_laws.proofs.Leaders.{in-standing, standing-in}
pub use Rattle.word_laws.proofs.Members.{first-in, is_member-start, is_some_of-is, start-is_member}
pub use Rattle.word_laws.proofs.Moves.{Grows}
pub use Rattle.word_laws.proofs.Rejoins.{start-grows, start-holds, start-stops-holds, with_began}
pub use Rattle.word_laws.proofs.Steps.{channel-holds, pops, same-true, waiting-shrinks}
pub use Rattle.word_laws.proofs.Turns.{Decides, StopsSay, concludes, concludes-is, concludes-not, decides-sends, decides-state, may_decide-cases, on_decided-joiner, stops-say, stops_with_host-say, tells-state}
pub use Rattle.word_laws.proofs.Worlds.{actor-host, grows-same, host-apart, memory-runs}
pub use Rattle.word_laws.specs.Chain.{state_of}
pub use Rattle.word_laws.specs.Histories.{Admitted, AgentWaitingFrom, AgentWaitingOk, CameOk, Comparable, Distinct, Falls, GoodWord, History, HistoryOk, OwnOk, Recorded, State, Within, WordsHold, agent_start, names}
pub use Rattle.log_laws.specs.Histories.{AckOk, AllLoaded, AskedOk, AsksToJoin, Begins, BeginsAt, Came, Coming, CountedOk, EndOk, Entered, EnteredOk, FirstViews, Flow, Follows, FollowsIn, ForeignOk, HasBeen, HeldFor, HeldOk, InWord, Inert, IsCounted, IsSlot, JoinerOk, JoinsIn, KeepsOk, Last, Leadership, LeadershipOk, LeadsIn, Line, LoadedOk, LoadsOk, LogState, Logs, LogsHold, MeantFor, MemberOk, MemberViews, NoStream, PlainView, Puts, QueuedLoadedOk, Repairs, ReportOk, RunViews, SiteLetterOk, SiteOk, SiteWaitingFrom, SiteWaitingOk, Starting, StreamIn, StreamedOk, Streaming, ToldOk, Took, Unled, UnledOk, Untaken, ViewIn, ViewsOk, WasIn, WordOf, Wordless, agent_to_site, ask_in, ask_of, asked, asks_in, asks_kept, asks_of_term, asks_waiting, between, end_in, end_of, epoch_base, flow, flow_in, flow_of, follows, is_for, known, line, line_in, line_of, log_at, part, sent_term, site_start, stream_ends_in, term_at, view_in, view_of, views, wait_of}
pub use Rattle.log_laws.specs.Copies.{AreCopies, AuthoritativeOk, CountedIn, HasLoaded, HasLogs, IsInAuthoritative, KeepsFirm, Leads, LeadsNext, OfOneTerm, authoritative_for, log_of, log_state}
