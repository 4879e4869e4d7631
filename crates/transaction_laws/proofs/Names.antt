-- The names of other crates that the proofs use, and of the definitions: what they know of lists and numbers, the model, the walk over it, and the laws below.
pub use Rattle.std.proofs.Common.{Bool, List, [], ap, append-nil, append_assoc, arith, drop, false, inl, inr, le_trans, length, length-append, length-drop, length-take, map, max, refl, subst, suc, sym, take, take-append-drop, take_all, true, true≢false, zero, ◌++◌, ◌+◌, ◌-◌, ◌<◌, ◌==◌, ◌∙◌, ◌∷◌, ◌≡◌, ◌≤◌, ◌⊎◌}
pub use Rattle.std.proofs.Math.Nat.{div-mul-le_self}
pub use Rattle.std.proofs.Math.Seq.{drop-append_seam}
pub use Rattle.std.proofs.lemmas.Bool.{and_from, and_left, and_parts, and_right, cases_Bool, cases_eq, cases_lt, cond_both, eq-eqb, eqb-false, eqb-true, false_from_ne_true, false≢true, lt-ltb, ltb-true, not_from_true, or_cases}
pub use Rattle.std.proofs.lemmas.Bool.Decides.{nat_tests}
pub use Rattle.std.proofs.lemmas.Grind.{flat_map-append}
pub use Rattle.std.proofs.lemmas.List.{append_cancel_left, drop-append-le, drop_all, length-map, length_push, map-append, nil_from_length}
pub use Rattle.std.proofs.lemmas.List.Folds.{list_any-append}
pub use Rattle.std.proofs.lemmas.List.Prefix.{front_rest}
pub use Rattle.std.proofs.lemmas.Nat.{div-mul-add}
pub use Rattle.std.specs.List.{AllByRecursion, list_all, list_any}
pub use Rattle.std.specs.Prelude.{None, Option, Some, filter, if◌then◌else◌, is_none, is_some, min, nat_le, nat_lt, not, option_map, slice_index, unwrap_or, ℕ, ◌%◌, ◌&&◌, ◌*◌, ◌/◌, ◌||◌}
pub use Rattle.volt_base.specs.declared.entry.Entry.{Entry}
pub use Rattle.volt_base.specs.declared.entry.Entry.TheVariants.{Done, Frag, Sp}
pub use Rattle.volt_base.specs.declared.entry.LastReply.{LastReply}
pub use Rattle.volt_base.specs.declared.entry.Outcome.{Outcome}
pub use Rattle.volt_base.specs.declared.entry.Outcome.TheVariants.{Aborted, Dropped, Kept, Snapshot}
pub use Rattle.volt_wire.specs.Word.{Membership}
pub use Rattle.volt_wire.specs.declared.actor.Actor.{Actor}
pub use Rattle.volt_wire.specs.declared.actor.Actor.TheVariants.{Agent, Client, Director, Scanner, Site}
pub use Rattle.volt_wire.specs.declared.end.End.{End}
pub use Rattle.volt_wire.specs.declared.event.Event.{Event}
pub use Rattle.volt_wire.specs.declared.message.Msg.{Msg}
pub use Rattle.partition_ring.specs.Placement.{IsLayout, slot_of, slots_of_part}
pub use Rattle.cluster_model.proofs.Runs.{reached-kept}
pub use Rattle.cluster_model.specs.Agent.{agent_handler, agent_runs, agent_takes, agent_turn, asked_again, asks_again, asks_initiator, decided_sends, decides_word, from_client, from_director, from_site, handler_and_word, has_loaded, is_other_word, is_passed_over, is_word, may_decide, on_call, on_closed, on_decided, on_hello, on_loaded, on_start, on_word, request, runner, says, start_after, takes_each, takes_waiting, takes_word, to_runner, unless_down, unless_stopped}
pub use Rattle.cluster_model.specs.AgentState.{AgentState, Initiating, Pending, Work, answers_client, client_of, initiates, is_down_in, is_initiator_in, new_agent, on_reply, stops, stops_with_host}
pub use Rattle.cluster_model.specs.declared.initiating.Queued.TheVariants.{Admission, ToRun}
pub use Rattle.cluster_model.specs.declared.initiating.Phase.TheVariants.{Closes, Hears, Idle, Off, Works}
pub use Rattle.cluster_model.specs.declared.initiating.Heard.{Heard}
pub use Rattle.cluster_model.specs.declared.initiating.Job.{Job}
pub use Rattle.cluster_model.specs.declared.initiating.Phase.{Phase}
pub use Rattle.cluster_model.specs.declared.initiating.Queued.{Queued}
pub use Rattle.cluster_model.specs.declared.initiating.Job.TheVariants.{RunCall, TakeSnapshot}
pub use Rattle.cluster_model.specs.Disk.{Shown, best_of, chosen, closed, greatest_open, mark_of, recovered, resolved, resolved_log}
pub use Rattle.cluster_model.specs.Engine.{CoordStep, Database, Finish, Round}
pub use Rattle.cluster_model.specs.Environment.{DiskFails, DisksShow, Environment, NoFault, NoMemory}
pub use Rattle.cluster_model.specs.Events.{allows, can, delivered, happens, is_actor, is_shown, is_slot_or_none, is_some_letter, is_stopped, may_do, may_recover, recovered_with, step}
pub use Rattle.cluster_model.specs.Initiator.{admitting, all_finished, answers, begins, body_of_round, closes_open, closing_outcome, decides, done_to, end_of, ends_job, ends_round, feeds, first_number, gathers, goes_on, greatest_told, has_part, has_told, hears, if_idle, in_order, knows_told, known_of, last_told, new_work, no_work, on_finished, on_frag_done, on_mp_state, open_parts, open_told, outcome_of, own_decision, queues, rests, runs_again, settles, to_all_leaders, to_leader, to_leaders, with_phase, with_queue, with_work, works_known, works_queue}
pub use Rattle.cluster_model.specs.Laws.{RiseFrom}
pub use Rattle.cluster_model.specs.Letters.{Arrival, Blocks, Letter, Refused, Sends, Taken, Turn, Waiting, Waits, above_term, arrival, becomes, letter_in, letter_to, no_sends, of_term, only, open_letter, same, sending, ◌▸◌}
pub use Rattle.cluster_model.specs.Log.{answer_behind, done_behind, first_outcome, greater, last_done, nothing_open, number_of, open_behind, open_in, outcome_if_last}
pub use Rattle.cluster_model.specs.Recover.{new_base, new_content, new_log, new_site, shown_of, starts_anew, stays_stopped}
pub use Rattle.cluster_model.specs.Replies.{end_of_reply, last_replies}
pub use Rattle.cluster_model.specs.declared.known.Known.{Known}
pub use Rattle.cluster_model.specs.declared.known.Known.TheVariants.{IsAnswered, IsNew, IsPast}
pub use Rattle.cluster_model.specs.Runs.{Happening, Reached, has_failed, may_happen}
pub use Rattle.cluster_model.specs.Site.{acked_in, copy_acks, counts, firm_now, floor_now, has_all_on_disk, holds, holds_for, in_new_term, initiator_in, lacks, leads_with, least, least_of, lesser, longest, on_done, on_frag, on_view, own_ack, sends_firm, site_handler, standing, takes_asks, works_calls}
pub use Rattle.cluster_model.specs.SiteState.{AskedCall, Joiner, Joining, Reported, SiteState, Streamed, is_leader, leads, member_site, no_site, other_copies, site_term, stopped_site}
pub use Rattle.cluster_model.specs.Sync.{after_sync, may_sync, site_turn, sync_turn, syncs}
pub use Rattle.cluster_model.specs.Words.{Deployment, IsLaidOut, admits, all_parts, host_of_slot, initiator, is_down, is_host, is_in, is_member, is_slot_of, is_some_of, leader, members, part_of_slot, parts, same_word, slots, slots_of_host, start_of, start_of_slot, term_in, term_of, union, with_admitted, with_number}
pub use Rattle.cluster_model.specs.World.{AuthoritativeLog, Input, IsInput, Stopped, World, first_world, greatest_done, greatest_replies, member_agent, new_word, rest, stamp_of, start_from, stops_with, took, with_site}
pub use Rattle.cluster_steps.proofs.Channels.{sent-both, took-all}
pub use Rattle.cluster_steps.proofs.Frames.{begins_at, holds_for-cases}
pub use Rattle.cluster_steps.proofs.Leaders.{leader-same, leader-view, leads-from, leads-parts}
pub use Rattle.cluster_steps.proofs.Least.{least_of-below, lesser-parts}
pub use Rattle.cluster_steps.proofs.Lists.{all-append, all-at, all-behind, all-both, all-filter, all-first, all-from, all-if, all-mono, and-false, eqb-same, filter-in, if-false, if-true, in-cases, in-filter, in-left, in-map, in-map-from, in-none, in-right, is_none-none, list_all-at, list_any-from, none-and-some, not-both, or-false, same-some, set-both, set-here, set-there, some-here}
pub use Rattle.cluster_steps.proofs.Prefixes.{drop-behind, prefix-append, prefix-drop, prefix-grows, prefix-length, prefix-none, prefix-refl, prefix-rest, prefix-same, prefix-take, prefix-trans, prefixes-compare, prefixes-order, take-grown}
pub use Rattle.cluster_steps.proofs.SiteTurns.{ForHost, KeepsWord, NoWord, PlainWaiting, Wrote, anew, enters-walk, handler-keeps, joins-walk, plain-word, site_turn-cases, stays_joiner, sync-waits, sync_turn-cases, syncs-stays, taken-stays, takes_asks-cases, turn-waits, view-keeps, whole-keeps, whole_turn, worked-walk, worked_turn, written_site, wrote}
pub use Rattle.cluster_steps.proofs.SiteWalk.{after_sync-walk, handler-walk, leads_with-walk, settled-walk, settled_turn}
pub use Rattle.cluster_steps.proofs.StateSteps.{CallOf, Comes, ComesPlainly, Over, Plainly, ReportOf, StateSaying, StateSteps, over-moves, over-settles, over-steps, over-tells, with_others}
pub use Rattle.cluster_steps.proofs.Steps.{HandlerSteps, KnownOf, with_entry}
pub use Rattle.cluster_steps.specs.Lists.{In, OnSome, Prefix}
pub use Rattle.word_laws.proofs.Admissions.{admits-holds, not-admitted}
pub use Rattle.word_laws.proofs.AgentEvents.{asked-waiting, calm-event, comes-first, handler-event, none-taken, none-waited, start-of-body}
pub use Rattle.word_laws.proofs.Agreement.{member-is, member-of, runs-not-lost, said-good, term-same}
pub use Rattle.word_laws.proofs.Algebra.{admits-firsts, firsts, names-admits, same_word-is, same_word-refl, subset-length, with_admitted-admits, within-refl}
pub use Rattle.word_laws.proofs.Arrivals.{AgentTakes, Ignores, Runs_, Stops_, runs-refused, runs-taken, runs-waits, stopped-cases, takes-cases, turn-cases, unless-running, waiting-brings}
pub use Rattle.word_laws.proofs.Calm.{AdmitsNow, Calm, asked_by, handler-calm, loaded_by}
pub use Rattle.word_laws.proofs.Epochs.{initiator-first}
pub use Rattle.word_laws.proofs.Hearings.{WordsTurn, after-handler, agent-there, concludes-none, handler-grows, handler-plain, then-assoc, then-inert}
pub use Rattle.word_laws.proofs.Initiators.{initiator-lasts}
pub use Rattle.word_laws.proofs.Members.{initiates-is, initiator-member, is_member-start, is_some_of-is, members-all, members-below}
pub use Rattle.word_laws.proofs.Moves.{Grows}
pub use Rattle.word_laws.proofs.OwnWords.{said_to, spoken}
pub use Rattle.word_laws.proofs.Steps.{after-after, waiting-shrinks}
pub use Rattle.word_laws.proofs.Turns.{IsRequest, asks_again-requests, concludes, concludes-is, concludes-not, decides-state, may_decide-cases, request-cases, tells, tells-state}
pub use Rattle.word_laws.proofs.Worlds.{actor-host, host-apart, memory-runs}
pub use Rattle.word_laws.specs.Histories.{AgentWaitingFrom, AgentWaitingOk, CameOk, GoodWord, History, OwnOk, QueuedAdmissionOk, SaidBy, State, Within, names}
pub use Rattle.log_laws.proofs.Agents.AgentEvents.{AgentGoes, agent-event, asks-on, decided-pops, first-asks, waits-on}
pub use Rattle.log_laws.proofs.Agents.AgentHandlers.{first-agent, may-join}
pub use Rattle.log_laws.proofs.Agents.AgentTurns.{AgentHandler, MayJoin, Rest, agent_heard, holds-of, plain-agent, rest-heard, rest-of, stay-agent}
pub use Rattle.log_laws.proofs.Agents.AgentWords.{concludes-agent}
pub use Rattle.log_laws.proofs.Agents.Decided.{decides-above}
pub use Rattle.log_laws.proofs.Agents.Views.{agent_turned, worded}
pub use Rattle.log_laws.proofs.Entries.Leads.{Leading, leading}
pub use Rattle.log_laws.proofs.Kept.Grown.{onward-same}
pub use Rattle.log_laws.proofs.Kept.Moves.{Enters, Grown, Heads, Onward, after_site, site_popped}
pub use Rattle.log_laws.proofs.Kept.Plumbing.{here, popped-here, sent-either, there}
pub use Rattle.log_laws.proofs.Kept.Terms.{base-least, entered-start, last-below, leadership-entered, running-slot, same-word, some-start, some-term}
pub use Rattle.log_laws.proofs.Messages.Pops.{refused-for, taken-for, waits-for}
pub use Rattle.log_laws.proofs.NewTerms.Beginning.{longest-cases}
pub use Rattle.log_laws.proofs.Plain.Copies.{in-is_in, in-range, is-leader, is_in-in, leader-follows-none, leader-is, range-in, slots-part}
pub use Rattle.log_laws.proofs.Plain.Lines.{both-empty, flat-none, for-false, for-true, if-none, flat-each, true-for}
pub use Rattle.log_laws.proofs.Runs.Agreeing.{agrees-begun}
pub use Rattle.log_laws.proofs.Runs.Boots.{anew-logs, anew-logs-are, first-logs, first-logs-are, first_leadership, new_logs}
pub use Rattle.log_laws.proofs.Runs.Leading.{heads-authoritative, leads-runs}
pub use Rattle.log_laws.proofs.Runs.Others.{Keeps, next-logs, scan-logs, stopped-logs, submit-logs, to_client-logs, to_director-logs, to_scanner-logs}
pub use Rattle.log_laws.proofs.Runs.SiteEvents.{sync-after, turn-after}
pub use Rattle.log_laws.proofs.Runs.SiteHandlers.{taken-here}
pub use Rattle.log_laws.proofs.Runs.Worlds.{actor-slot, site-next, site-reaches}
pub use Rattle.log_laws.specs.Copies.{AuthoritativeOk, HasLogs, log_of, log_state}
pub use Rattle.log_laws.specs.Histories.{AskedOk, Entered, IsSlot, Last, Leadership, LeadsIn, LogState, Logs, LogsHold, MemberOk, ReportOk, SiteLetterOk, SiteWaitingFrom, SiteWaitingOk, StreamIn, ViewIn, WordOf, between, epoch_base, is_for, known, line, line_in, line_of, log_at, part, sent_term, site_start, term_at}
pub use Rattle.disk_laws.proofs.Boots.{anew-disks, firm_in, first-disks}
pub use Rattle.disk_laws.proofs.Choices.{chosen-firm, disk-shows, get-none, shows-slot, world-shows}
pub use Rattle.disk_laws.proofs.Contents.{firm-prefix, firm-within, member-behind}
pub use Rattle.disk_laws.proofs.Order.{Chosen, at_least-mark, best-chosen, top-chosen}
pub use Rattle.disk_laws.proofs.Others.{disks-agent, disks-plain}
pub use Rattle.disk_laws.proofs.Recoveries.{agent-stopped, left-top, new-above, site-stopped, stopped-hold}
pub use Rattle.disk_laws.proofs.SiteDisks.{Raised, authoritative-raised}
pub use Rattle.disk_laws.proofs.SiteTurns.{site_turn-kept}
pub use Rattle.disk_laws.proofs.Syncs.{sync-disks, sync-runs}
pub use Rattle.disk_laws.proofs.Turning.{DisksGo, fewer}
pub use Rattle.disk_laws.proofs.Worded.{later-term, unstreamed, word-based, word-unnamed}
pub use Rattle.disk_laws.specs.Disks.{AtLeast, ContentOk, DisksHold, Firm, MemberDisk, Shows, StreamDisk, Top, Written, shown_at}
pub use Rattle.disk_laws.specs.Survival.{MayShow}
pub use Rattle.reply_laws.proofs.Turns.{no-log, site_turn-answers, sync_turn-answers, waits-plain}
pub use Rattle.reply_laws.specs.Answers.{Answered, ClaimsFit, HoldsAnswers, SentAnswer, TurnAnswers}
pub use Rattle.transaction_laws.specs.Calls.{AllBefore, AnswersCall, CallsOk, Covered, EntryAsked, IsAskedBefore, IsOnOne, MayRun, OutcomeAsked, OutcomeOf, RepliesRise, call_of, calls_of}
pub use Rattle.call_laws.specs.Submissions.{AgentAsks, AskedIn, CallAsked, HasSubmissions, IsAsked, JobAsked, QueuedAsked, SiteAsks, Submission, Submissions, WaitingAsked, WorkAsked}
pub use Rattle.transaction_laws.specs.Machine.{EndFits, Fits, IsOpen, RiseWithin, Stage, WellFormed, first_stage, next_stage, point_after, points, stage, stage_behind}
pub use Rattle.transaction_laws.specs.Transactions.{AgentCalls, Aligned, AnswerOk, AtHand, Books, CallsHold, CountsOk, DueOk, EntryAt, Everywhere, Fed, FromLogs, KnownEnd, KnownReply, Replied, HeardOk, HeardPart, Initiates, InitiatingOk, IsCall, IsEnded, IsOrder, IsPart, JobOk, Knows, LeadershipFits, MayEnd, CoversAll, CoversIn, NoRound, OfNumber, OnlyCalls, OrderOk, PhaseOk, Settled, SiteCalls, StateOk, Stood, ToOrders, ToSiteOk, Transactions, WaitingAnswer, WaitsPlain, acknowledged, heard_of, led_log, order_in, order_of, orders, point_in, since, whole}
pub use Rattle.transaction_laws.specs.Worlds.{AppliesOnce, CallIsAsked, EndIsAsked, IsEnd, ShareEnds, SubmittedAt, WasAskedBefore, EndsAlike, GoesOnAlike, GoesOnClosed, IsApplied, IsInitiator, IsPartOf, IsSlotOf, StandsOrIsOpen}
