pub mod FolderDialogues
pub mod State
pub mod Program
