pub mod OwnTags
