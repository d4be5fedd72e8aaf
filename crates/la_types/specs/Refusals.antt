-- When a call is refused, and how: by cases over the error.
use Rattle.std.specs.Prelude.{◌≡◌, ℕ, ◌+◌, ◌^◌, ◌<◌, ◌≤◌, List, length, Option, None, IsSomeAnd}
use Rattle.la_own.specs.declared.error.OwnError.{OwnError}
use Rattle.la_own.specs.declared.error.OwnError.TheVariants.{TooLong, Memory}
use Rattle.la_own.specs.declared.own.TheConstants.{OWN_BYTES}
use Rattle.la_shelf.specs.declared.error.Refusal.{Refusal}
use Rattle.la_shelf.specs.declared.error.Refusal.TheVariants as why
use Rattle.la_types.specs.declared.counter_map.CounterOp.{CounterOp}
use Rattle.la_types.specs.CounterMaps.{KeptCounters, amount_of, all_amounts}
use Rattle.la_types.specs.declared.keyed_objects.UnderError.{UnderError}
use Rattle.la_types.specs.declared.keyed_objects.UnderError.TheVariants as under
use Rattle.la_types.specs.declared.write.TheConstants.{REGISTER_BYTES}
use Rattle.la_types.specs.declared.multi.TheConstants.{MULTI_BYTES}
use Rattle.la_types.specs.declared.write_map.TheConstants.{KEYED_BYTES}
use Rattle.la_types.specs.declared.counter_map.TheConstants.{COUNTER_KEY_BYTES}
use Rattle.la_types.specs.declared.elements.TheConstants.{ELEMENT_BYTES}

abbrev pub IsWriteRefusal : List ℕ → OwnError → Type 0
IsWriteRefusal value TooLong = REGISTER_BYTES < length value
IsWriteRefusal value Memory = length value ≤ REGISTER_BYTES

abbrev pub IsKeyedRefusal : List ℕ → List ℕ → OwnError → Type 0
IsKeyedRefusal key value TooLong = KEYED_BYTES < length key + length value
IsKeyedRefusal key value Memory = length key + length value ≤ KEYED_BYTES

abbrev pub IsMultiRefusal : List ℕ → OwnError → Type 0
IsMultiRefusal value TooLong = MULTI_BYTES < length value
IsMultiRefusal value Memory = length value ≤ MULTI_BYTES

abbrev pub IsCounterRefusal : List ℕ → OwnError → Type 0
IsCounterRefusal key TooLong = COUNTER_KEY_BYTES < length key
IsCounterRefusal key Memory = length key ≤ COUNTER_KEY_BYTES

abbrev pub IsElementRefusal : List ℕ → OwnError → Type 0
IsElementRefusal element TooLong = ELEMENT_BYTES < length element
IsElementRefusal element Memory = length element ≤ ELEMENT_BYTES

-- an operation, with these bytes if it is one of one's own, is not put under a key
abbrev pub IsUnderRefusal : List ℕ → Option (List ℕ) → UnderError → Type 0
IsUnderRefusal key own under.NotOwn = own ≡ None
IsUnderRefusal key own under.TooLong = IsSomeAnd own (λ bytes. OWN_BYTES < 1 + length key + length bytes)
IsUnderRefusal key own under.Memory = IsSomeAnd own (λ bytes. 1 + length key + length bytes ≤ OWN_BYTES)

-- why an operation that was to be put under a key was not made
abbrev pub passed_under : OwnError → UnderError
passed_under TooLong = under.TooLong
passed_under Memory = under.Memory

-- an operation is not kept: all amounts would be above what a u64 holds, or there is no memory
abbrev pub IsKeepRefusal : KeptCounters → CounterOp → Refusal → Type 0
IsKeepRefusal s does why.Full = 2 ^ 64 ≤ all_amounts s + amount_of does
IsKeepRefusal s does why.Memory = Unit {0}

-- an update is not absorbed: what it does is not kept, if it does anything here, or there is no memory to read it
abbrev pub IsCountingRefusal : KeptCounters → Option CounterOp → Refusal → Type 0
IsCountingRefusal s o why.Full = IsSomeAnd o (λ does. 2 ^ 64 ≤ all_amounts s + amount_of does)
IsCountingRefusal s o why.Memory = Unit {0}
