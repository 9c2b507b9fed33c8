pub mod Archives
pub mod OneFile
pub mod Requests
pub mod OneGlob
pub mod OneGlobFile
