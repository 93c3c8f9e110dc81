-- A conversation with a service is one over what is seen of it.
use Rattle.std.proofs.Common.{◌≡◌, ℕ, List, Option, Some, None, subst, ap, inl, inr}
use Rattle.json.specs.Json.{Json}
use Rattle.byte_streams.specs.Devices.{Account}
use Rattle.byte_streams.specs.declared.fault.Fault.{Fault}
use Rattle.byte_streams.specs.declared.fault.Fault.TheVariants.{Read, Utf8, Memory, Write}
use Rattle.rpc_messages.specs.Steps.{StepsBy, Takes}
use Rattle.rpc_messages.specs.declared.reply.Reply.{Reply}
use Rattle.rpc_serving.specs.Exchange.{Exchange, waits, replied, ended, passed_over}
use Rattle.rpc_serving.specs.Serving.{EndsServing, IsServed}

module _ {S T : Type 0} (view : S → T) (steps : T → Option Json → List ℕ → Json → Reply → T → Type 0) where
  -- the step that a message makes, as it is seen
  abbrev pub Seen : S → Option Json → List ℕ → Json → Reply → S → Type 0
  Seen old id method params reply new = steps (view old) id method params reply (view new)

  steps_by : (id method : Option Json) (params : Json) (old new : S) (reply : Reply)
      → StepsBy Seen id method params old reply new
      → StepsBy steps id method params (view old) reply (view new)
  steps_by (Some id) (Some method) params old new reply step = step
  steps_by (Some id) None params old new reply step = (step.0, ap view step.1)
  steps_by None (Some method) params old new reply step = step
  steps_by None None params old new reply step = (step.0, ap view step.1)

  takes_of : (body : List ℕ) (old new : S) (reply : Reply) → Takes Seen body old reply new
      → Takes steps body (view old) reply (view new)
  takes_of body old new reply (inl none) = inl (none.0, none.1, ap view none.2)
  takes_of body old new reply (inr some) = inr (some.0, some.1, steps_by _ _ _ old new reply some.2)

  exchange_of : {first last : S} {bytes said rest : List ℕ} {status : Option ℕ}
      → Exchange (Takes Seen) first bytes said rest status last
      → Exchange (Takes steps) (view first) bytes said rest status (view last)
  exchange_of (waits none) = waits none
  exchange_of (replied asked reply begins asks replies goes_on takes more) =
      replied asked reply begins asks replies goes_on (takes_of _ _ _ reply takes) (exchange_of more)
  exchange_of (ended asked reply status begins ends asks replies is takes) =
      ended asked reply status begins ends asks replies is (takes_of _ _ _ reply takes)
  exchange_of (passed_over never more) = passed_over never (exchange_of more)

  module _ (first last : S) (seen : T) (read_old read_new write_old write_new : Account) (is : view first ≡ seen) where
    from : (last' : S) (input output left : List ℕ) (asked : Option ℕ)
        → Exchange (Takes Seen) first input output left asked last'
        → Exchange (Takes steps) seen input output left asked (view last')
    from last' input output left asked e =
        subst (λ (t : T). Exchange (Takes steps) t input output left asked (view last')) is (exchange_of e)

    -- the same of a whole run
    pub served_of : (status : ℕ) → IsServed (Takes Seen) first last status read_old read_new write_old write_new
        → IsServed (Takes steps) seen (view last) status read_old read_new write_old write_new
    served_of status served = record {
      input = served.input;
      output = served.output;
      left = served.left;
      asked = served.asked;
      exchange = from last served.input served.output served.left served.asked served.exchange;
      ends = served.ends;
      written = served.written;
    }

    -- the same of a run that fails
    pub fails_of : (fault : Fault) → EndsServing (Takes Seen) first last read_old read_new write_old write_new fault
        → EndsServing (Takes steps) seen (view last) read_old read_new write_old write_new fault
    fails_of Read e = record {
      input = e.input;
      output = e.output;
      left = e.left;
      exchange = from last e.input e.output e.left None e.exchange;
      read = e.read;
      written = e.written;
    }
    fails_of Write e = record {
      input = e.input;
      output = e.output;
      left = e.left;
      asked = e.asked;
      exchange = from last e.input e.output e.left e.asked e.exchange;
      read = e.read;
      written = e.written;
    }
    fails_of Memory e = record {
      input = e.input;
      more = e.more;
      output = e.output;
      left = e.left;
      middle = view e.middle;
      exchange = from e.middle e.input e.output e.left None e.exchange;
      read = e.read;
      few = e.few;
      written = e.written;
    }
    fails_of Utf8 e = absurd e
