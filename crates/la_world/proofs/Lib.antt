mod Lists
mod EventCases
mod Accepted
mod Quorum
mod GrowingViews
mod Chains
mod Within
mod SubmittedBound
mod Growth
mod TakenUpdates
mod Validity
mod LearntOrder
mod LargestViews
mod Order
pub mod OwnHistories
pub mod Sizes
pub mod Openings
pub mod Reports
pub mod Unaffected
pub mod OwnBound
pub mod OneReplicaSteps
pub mod Allowing
pub mod InGroup
pub mod Traces
pub mod Hearing
pub mod Tellings
pub mod ToldMail
pub mod Deliverable
pub mod Delivered
pub mod Once
pub mod Taking
pub mod SubmissionEvents
pub mod Submitting
pub mod Replying
pub mod Delivering
pub mod Placing
pub mod SecondVotes
pub mod Voting
pub mod Legal
pub mod RefusedForMemory
pub mod Receipts
pub mod lemmas
pub mod StoredMessages
pub mod Shown
pub mod Telling
pub mod Proposals
pub mod WorldSteps
pub mod SentCounts
pub mod Receivers
pub mod Worlds
pub mod Noted
pub mod Returned
pub mod OwnFirst
pub mod Staying
pub mod SubmittedVotes
pub mod LearntVotes
pub mod Returns
pub mod Agreement
pub mod Safe
pub mod Asking
pub mod Places
pub mod SubmissionLines
pub mod OwnUpdates
pub mod ShownLater
pub mod ReadsByMarks
pub mod Promised
pub mod Outcomes
pub mod WorldOutcomes
pub mod TellOrder
pub mod Seeing
pub mod Reported
pub mod WorldNodes
pub mod Questions
pub mod LiveGroups
pub mod RebasedReceipts
pub mod LiveParcels
mod Repeats
pub mod ToldFurther
pub mod Together
pub mod Moments
